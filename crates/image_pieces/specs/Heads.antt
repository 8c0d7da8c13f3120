-- The head of an image by its numbers. Assumes nothing.
use Rattle.std.specs.Prelude.{ℕ, ◌≤◌, ◌≡◌, Bool, true, cond, ◌&&◌, List, [], leb, length, None, Option, Some}
use Rattle.model.specs.Bep3.{num_pieces}
use Rattle.model.specs.State.{Picker, dirty, fresh, max_peers, is_dirty, valid_geometry}
use Rattle.model.specs.image.WellFormed.{head_ok}
use Rattle.model.specs.image.Image.{Got, got, fault}
use Rattle.image_pieces.specs.declared.head.Head.{Head}

-- its rule
unfoldable pub head_test : (total size seeds cursor reverse flag : ℕ) → Bool
head_test total size seeds cursor reverse flag =
    leb flag 1 && (valid_geometry total size && (leb seeds max_peers &&
    (leb cursor (num_pieces total size) && leb reverse (num_pieces total size))))

-- the numbers of a picker's head
unfoldable pub head_numbers : (s : Picker) → Head
head_numbers s =
    record {
      total = s.total_size;
      size = s.piece_size;
      seeds = s.seeds;
      cursor = s.cursor;
      reverse_cursor = s.reverse_cursor;
      dirty = is_dirty s.listing;
    }

-- the head found
unfoldable pub head_step : (found : Got Picker) → Option Head
head_step (got s rest) = Some (head_numbers s)
head_step (fault rest) = None

-- a picker of head fields alone
unfoldable pub head_picker : (head : Head) → Picker
head_picker head =
    record {
      total_size = head.total;
      piece_size = head.size;
      seeds = head.seeds;
      cursor = head.cursor;
      reverse_cursor = head.reverse_cursor;
      pieces = [];
      partials = [];
      recent_extents = [];
      listing = cond head.dirty dirty (fresh []);
    }

-- a head that obeys its rule stands in front of the bytes
pub record Headed (head : Head) (bytes : List ℕ) : Type 0 where
  pub ok : head_ok (head_picker head) ≡ true
  pub room : 24 ≤ length bytes
