-- The cursors stay between 0 and the number of pieces.
use mathlib.Core.Path.{◌≡◌, refl}
use Prim.Native.Nat.{ℕ, zero, suc, ◌≤◌, ◌<◌}
use native.Mathlib.Omega.{arith}
use mathlib.Core.Bool.{Bool, true, false, cond, ◌&&◌}
use mathlib.Core.List.{List, [], ◌∷◌}
use lib.ListN.{length, drop, length-drop}
use lib.Dec.{eqb}
use Rattle.model.specs.Lists.{len, when}
use Rattle.model.specs.State.{Piece, Picker, with_cursors, piece_at, pieces_in}
use Rattle.model.specs.list.Order.{rank}
use Rattle.model.specs.change.Changes.{flushed_or_filtered, flushed_or_filtered_run, cursor_from, reverse_from, empty_range, advance_cursors}
use Rattle.model.specs.change.Changes.{cursors_on_filter}
use Rattle.model.specs.image.Sound.{Sound}
use Rattle.model.proofs.base.Phases.{cond_arms, when_arms}
use Rattle.model.proofs.list.ListingLaws.{ok_same}
use Rattle.model.proofs.sound.SoundBody.{Frame, Body, sound_body, body_sound, head_in}
use Rattle.model.proofs.sound.SoundFields.{frame_cursors, at_cursors}

-- ---- cursors
-- s' is s with other cursors in range
pub record Turned (s s' : Picker) : Type 0 where
  pub cursor : ℕ
  pub reverse_cursor : ℕ
  pub is : s' ≡ with_cursors cursor reverse_cursor s
  pub cursor_in : cursor ≤ pieces_in s
  pub reverse_in : reverse_cursor ≤ pieces_in s

flushed_or_filtered_run_le : (ps : List Piece) → flushed_or_filtered_run ps ≤ length ps
unfolding flushed_or_filtered_run
flushed_or_filtered_run_le [] = omega arith
flushed_or_filtered_run_le (p ∷ ps) =
    let ih = flushed_or_filtered_run_le ps in
    cond_arms (λ n. n ≤ suc (length ps)) (flushed_or_filtered p) (suc (flushed_or_filtered_run ps)) 0 (λ e. omega arith) (λ e. omega arith)

reverse_from_le : (s : Picker) (i : ℕ) → reverse_from s i ≤ i
unfolding reverse_from
reverse_from_le s zero = omega arith
reverse_from_le s (suc i) =
    let ih = reverse_from_le s i in
    cond_arms (λ n. n ≤ suc i) (flushed_or_filtered (piece_at s i)) (reverse_from s i) (suc i) (λ e. omega arith) (λ e. omega arith)

cursor_from_le : (s : Picker) (i : ℕ) → i ≤ pieces_in s → cursor_from s i ≤ pieces_in s
unfolding cursor_from pieces_in len
cursor_from_le s i h = omega (arith, flushed_or_filtered_run_le (drop i s.pieces), length-drop i s.pieces)

module _ (s : Picker) (f : Frame s) where
  same_cursors : Turned s s
  unfolding with_cursors
  same_cursors =
      let g = head_in s f.head in record {
        cursor = s.cursor;
        reverse_cursor = s.reverse_cursor;
        is = refl;
        cursor_in = omega (arith, f.many);
        reverse_in = omega (arith, f.many);
      }

  no_stretch : Turned s (empty_range s)
  unfolding empty_range
  no_stretch = record { cursor = pieces_in s; reverse_cursor = 0; is = refl; cursor_in = omega arith; reverse_in = omega arith }

  -- a cursor that stands at piece i moves on
  advance_cursors_turned : (i : ℕ) → i < pieces_in s → Turned s (advance_cursors i s)
  unfolding advance_cursors same_cursors
  advance_cursors_turned i h = go (eqb s.cursor i && eqb s.reverse_cursor (suc i)) (eqb s.cursor i) (eqb s.reverse_cursor (suc i))
    where
      same : Turned s s
      same = same_cursors

      go : (a b c : Bool)
          → Turned s (cond a (empty_range s)
          (cond b (with_cursors (cursor_from s (suc i)) s.reverse_cursor s)
          (cond c (with_cursors s.cursor (reverse_from s i) s) s)))
      go true b c = no_stretch
      go false true c = record {
        cursor = cursor_from s (suc i);
        reverse_cursor = s.reverse_cursor;
        is = refl;
        cursor_in = cursor_from_le s (suc i) h;
        reverse_in = same.reverse_in;
      }
      go false false true = record {
        cursor = s.cursor;
        reverse_cursor = reverse_from s i;
        is = refl;
        cursor_in = same.cursor_in;
        reverse_in = omega (arith, reverse_from_le s i);
      }
      go false false false = same

  -- a piece begins to be left out, or ends to be
  pub cursors_on_filter_turned : (i priority : ℕ) → i < pieces_in s → Turned s (cursors_on_filter i priority s)
  unfolding cursors_on_filter
  cursors_on_filter_turned i priority h =
      let met = eqb s.cursor s.reverse_cursor in
      cond_arms (Turned s) (eqb priority 0) (advance_cursors i s) (when met empty_range s) (λ e. advance_cursors_turned i h)
      (λ e. when_arms (Turned s) met empty_range s (λ q. no_stretch) (λ q. same_cursors))

-- what does not depend on the cursors stays
pub turned_blind : (P : Picker → Type 0) → ((c r : ℕ) (s : Picker) → P s → P (with_cursors c r s))
    → (s s' : Picker) → Turned s s' → P s → P s'
turned_blind P blind s s' t p = rw t.is (blind t.cursor t.reverse_cursor s p)

-- other cursors in range keep a picker well-formed
pub turned_keeps : (s s' : Picker) → Turned s s' → Sound s → Sound s'
unfolding with_cursors pieces_in rank piece_at
turned_keeps s s' t v = rw t.is (body_sound u after (ok_same s u refl refl (λ y h. refl) v.list))
  where
    u : Picker
    u = with_cursors t.cursor t.reverse_cursor s

    b : Body s
    b = sound_body s v

    after : Body u
    after = record {
      frame = frame_cursors s b.frame t.cursor t.reverse_cursor t.cursor_in t.reverse_in;
      all = λ k. at_cursors s k (b.all k) t.cursor t.reverse_cursor;
    }

-- so does a cursor that moves on
pub advance_cursors_keeps : (i : ℕ) (s : Picker) → i < pieces_in s → Sound s → Sound (advance_cursors i s)
advance_cursors_keeps i s h v = turned_keeps s (advance_cursors i s) (advance_cursors_turned s (sound_body s v).frame i h) v

-- and a piece that begins to be left out, or ends to be
pub cursors_on_filter_keeps : (i priority : ℕ) (s : Picker) → i < pieces_in s → Sound s → Sound (cursors_on_filter i priority s)
cursors_on_filter_keeps i priority s h v =
    turned_keeps s (cursors_on_filter i priority s) (cursors_on_filter_turned s (sound_body s v).frame i priority h) v
