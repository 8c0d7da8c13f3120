-- The image of a well-formed picker is read back as that picker, and only images of well-formed pickers are accepted.
use mathlib.Core.Path.{◌≡◌, refl, sym, ap, ◌∙◌, subst}
use mathlib.Core.Bool.{true, false}
use mathlib.Core.List.{List, [], ◌∷◌, ◌++◌, append_assoc, append-nil}
use Prim.Native.Nat.{ℕ, ◌≤◌}
use native.Mathlib.Omega.{arith}
use lib.Dec.{eqb}
use borrow.Author.Tests.{eqb-true, eq-eqb}
use Rattle.model.specs.Lists.{len, concat_map}
use Rattle.model.specs.Bep3.{num_pieces}
use Rattle.model.specs.State.{Piece, DownloadingPiece, Picker, Listing, fresh, max_pieces, is_dirty, list_of, with_pieces, with_partials}
use Rattle.model.specs.State.{with_recent_extents, with_listing, pieces_in}
use Rattle.model.specs.image.WellFormed.{head_ok, pieces_ok, partials_ok, extents_ok, listing_ok, well_formed}
use Rattle.model.specs.image.Image.{extent_kind, place_kind, head_record, piece_record, partial_records, number_record, image, Got, got}
use Rattle.model.specs.image.Image.{fault, Reader, next, comes, get_extents, get_listing, get_picker, accepted, whole, read_image}
use Rattle.model.proofs.image.Codec.{got_value, got_rest, next_back, seq_there, seq_back}
use Rattle.model.proofs.image.Records.{bare, head_bare, bare-bare, bare_ok, HeadFits, head_fits, head_codec}
use Rattle.model.proofs.image.Parts.{pieces_codec, partials_codec, extents_there, extents_back, listing_there, listing_back}
use Rattle.model.proofs.image.Same.{SameHead, pieces_same, partials_same, SamePieces, extents_same, listing_same}
use Rattle.model.proofs.base.Truths.{both, true_both}

next_there : {A B : Type 0} {g : Got A} (f : A → Reader B) (a : A) (m : List ℕ) → g ≡ got a m → next g f ≡ f a m
unfolding next
next_there f a m e = rw e

-- ---- the rules of a picker, one by one
pub record WellFormed (s : Picker) : Type 0 where
  pub head : head_ok s ≡ true
  pub counted : pieces_in s ≡ num_pieces s.total_size s.piece_size
  pub pieces_ok : pieces_ok s 0 s.pieces ≡ true
  pub partials_ok : partials_ok s 0 0 s.pieces s.partials ≡ true
  pub extents_ok : extents_ok s [] s.recent_extents ≡ true
  pub listing_ok : listing_ok s s.listing ≡ true

-- a well-formed picker obeys each of them
pub well_formed_lem : (s : Picker) → well_formed s ≡ true → WellFormed s
unfolding well_formed
well_formed_lem s v =
    both (head_ok s) _ v λ a v₁.
    both (eqb (pieces_in s) (num_pieces s.total_size s.piece_size)) _ v₁ λ b v₂.
    both (pieces_ok s 0 s.pieces) _ v₂ λ c v₃.
    both (partials_ok s 0 0 s.pieces s.partials) _ v₃ λ d v₄.
    both (extents_ok s [] s.recent_extents) (listing_ok s s.listing) v₄ λ e g.
    record {
      head = a;
      counted = eqb-true (pieces_in s) (num_pieces s.total_size s.piece_size) b;
      pieces_ok = c;
      partials_ok = d;
      extents_ok = e;
      listing_ok = g;
    }

-- and a picker that obeys each of them is well-formed
pub well_formed_back : (s : Picker) → WellFormed s → well_formed s ≡ true
unfolding well_formed
well_formed_back s w =
    true_both (head_ok s) _ w.head
    (true_both (eqb (pieces_in s) (num_pieces s.total_size s.piece_size)) _ (eq-eqb (pieces_in s) (num_pieces s.total_size s.piece_size) w.counted)
    (true_both (pieces_ok s 0 s.pieces) _ w.pieces_ok
    (true_both (partials_ok s 0 0 s.pieces s.partials) _ w.partials_ok
    (true_both (extents_ok s [] s.recent_extents) (listing_ok s s.listing) w.extents_ok w.listing_ok))))

-- the bytes of the list
abbrev pub listed : Picker → List ℕ
listed s = concat_map (number_record place_kind) (list_of s.listing)

-- an image and what follows, part by part
image_split : (s : Picker) (rest : List ℕ) → image s ++ rest
    ≡ head_record s
    ++ (concat_map piece_record s.pieces
    ++ (concat_map partial_records s.partials ++ (concat_map (number_record extent_kind) s.recent_extents ++ (listed s ++ rest))))
unfolding image
image_split s rest = simp append_assoc

-- the picker after the partials, before extents and list are read
abbrev half_read : Picker → Picker
half_read s = with_partials s.partials (with_pieces s.pieces (bare s))

-- ---- written, then read
-- the image of a well-formed picker is read back, whatever follows, unless that would be one more extent
pub read_written : (s : Picker) (rest : List ℕ) → well_formed s ≡ true → comes extent_kind (listed s ++ rest) ≡ false → get_picker (image s ++ rest) ≡ got s rest
unfolding get_picker bare with_pieces with_partials with_recent_extents with_listing pieces_in len
read_written s rest v c =
    let w = well_formed_lem s v in
    let h : head_ok (bare s) ≡ true = bare_ok s ∙ w.head in
    let f = head_fits (bare s) h in
    let n : len s.pieces ≡ num_pieces s.total_size s.piece_size = w.counted in
    let same : SameHead (bare s) s = record { total_same = refl; size_same = refl; seeds_same = refl } in
    let alike : SamePieces (half_read s) s = record { size_same = refl; seeds_same = refl; pieces_same = refl } in
    let lim : len s.pieces ≤ max_pieces = omega arith in
    ap get_picker (image_split s rest ∙ ap (λ (l : List ℕ). l ++ (concat_map piece_record s.pieces
    ++ (concat_map partial_records s.partials ++ (concat_map (number_record extent_kind) s.recent_extents ++ (listed s ++ rest))))) (sym (head_bare s)))
    ∙ seq_there head_codec _ (bare s) _ (h, bare-bare s)
    ∙ seq_there (pieces_codec (bare s) f.size_most 0 (num_pieces s.total_size s.piece_size)) _ s.pieces _ (n, pieces_same (bare s) s same 0 s.pieces ∙ w.pieces_ok)
    ∙ seq_there (partials_codec (bare s) f 0 0 s.pieces (omega arith)) _ s.partials _
    (partials_same (bare s) s same 0 0 s.pieces s.partials ∙ w.partials_ok)
    ∙ next_there _ s.recent_extents _
    (extents_there (half_read s) lim 5 [] s.recent_extents (listed s ++ rest) refl (extents_same (half_read s) s alike [] s.recent_extents ∙ w.extents_ok) c)
    ∙ next_there _ s.listing _
    (listing_there (half_read s) lim s.listing rest (listing_same (half_read s) s alike s.listing ∙ w.listing_ok))

listed_first : (is rest : List ℕ) → comes extent_kind rest ≡ false → comes extent_kind (concat_map (number_record place_kind) is ++ rest) ≡ false
unfolding concat_map number_record comes
listed_first [] rest c = c
listed_first (i ∷ is) rest c = refl

-- in front of anything but an extent record
pub read_in_front : (s : Picker) (rest : List ℕ) → well_formed s ≡ true → comes extent_kind rest ≡ false → get_picker (image s ++ rest) ≡ got s rest
read_in_front s rest v c = read_written s rest v (listed_first (list_of s.listing) rest c)

-- in front of anything, where the list has a place
pub read_listed : (s : Picker) (i : ℕ) (is rest : List ℕ) → well_formed s ≡ true → s.listing ≡ fresh (i ∷ is) → get_picker (image s ++ rest) ≡ got s rest
unfolding list_of concat_map number_record comes
read_listed s i is rest v e = read_written s rest v (ap (λ (l : Listing). comes extent_kind (concat_map (number_record place_kind) (list_of l) ++ rest)) e)

-- the image of a well-formed picker is accepted as that picker
pub image-accepted : (s : Picker) → well_formed s ≡ true → read_image (image s) ≡ accepted s
unfolding read_image whole comes
image-accepted s v =
    ap (whole (len (image s))) (ap get_picker (sym (append-nil (image s))) ∙ read_in_front s [] v refl)

-- ---- read, then written
head_same : (h t : Picker) → h.total_size ≡ t.total_size → h.piece_size ≡ t.piece_size → h.seeds ≡ t.seeds → h.cursor ≡ t.cursor → h.reverse_cursor ≡ t.reverse_cursor
    → is_dirty h.listing ≡ is_dirty t.listing → head_record h ≡ head_record t
unfolding head_record
head_same h t a b c d e f = rw (a, b, c, d, e, f)

module _ (h : Picker) (ps : List Piece) (ds : List DownloadingPiece) (es : List ℕ) (l : Listing) where
  abbrev assembled : Picker
  assembled = with_listing l (with_recent_extents es (with_partials ds (with_pieces ps h)))

  parts_written : (bs m m₂ m₃ m₄ rest : List ℕ) → bs ≡ head_record h ++ m → m ≡ concat_map piece_record ps ++ m₂ → m₂ ≡ concat_map partial_records ds ++ m₃
      → m₃ ≡ concat_map (number_record extent_kind) es ++ m₄ → m₄ ≡ concat_map (number_record place_kind) (list_of l) ++ rest
      → is_dirty l ≡ is_dirty h.listing → bs ≡ image assembled ++ rest
  unfolding with_pieces with_partials with_recent_extents with_listing
  parts_written bs m m₂ m₃ m₄ rest a b c d e f =
      let g : head_record h ≡ head_record assembled = head_same h assembled refl refl refl refl refl (sym f) in
      cc (image_split assembled rest)

  list_ends : (rest : List ℕ) → comes extent_kind (concat_map (number_record place_kind) (list_of l) ++ rest) ≡ false
      → comes extent_kind (listed assembled ++ rest) ≡ false
  unfolding with_listing
  list_ends rest c = c

  parts_ok : HeadFits h → head_ok h ≡ true → len ps ≡ num_pieces h.total_size h.piece_size → pieces_ok h 0 ps ≡ true → partials_ok h 0 0 ps ds ≡ true
      → extents_ok (with_partials ds (with_pieces ps h)) [] es ≡ true → listing_ok (with_partials ds (with_pieces ps h)) l ≡ true → well_formed assembled ≡ true
  unfolding with_pieces with_partials with_recent_extents with_listing head_ok pieces_in
  parts_ok f a b c d e g =
      let same : SameHead assembled h = record { total_same = refl; size_same = refl; seeds_same = refl } in
      let alike : SamePieces assembled (with_partials ds (with_pieces ps h)) = record { size_same = refl; seeds_same = refl; pieces_same = refl } in
      well_formed_back assembled (record {
        head = a;
        counted = b;
        pieces_ok = pieces_same assembled h same 0 ps ∙ c;
        partials_ok = partials_same assembled h same 0 0 ps ds ∙ d;
        extents_ok = extents_same assembled (with_partials ds (with_pieces ps h)) alike [] es ∙ e;
        listing_ok = listing_same assembled (with_partials ds (with_pieces ps h)) alike l ∙ g;
      })

few_pieces : (h : Picker) (ps : List Piece) (ds : List DownloadingPiece) → HeadFits h → len ps ≡ num_pieces h.total_size h.piece_size
    → pieces_in (with_partials ds (with_pieces ps h)) ≤ max_pieces
unfolding pieces_in with_pieces with_partials
few_pieces h ps ds f e = omega arith

all_read : (bs : List ℕ) (s : Picker) (rest : List ℕ) → get_picker bs ≡ got s rest
    → (bs ≡ image s ++ rest) × ((well_formed s ≡ true) × (comes extent_kind (listed s ++ rest) ≡ false))
unfolding get_picker
all_read bs s rest e =
    seq_back head_codec _ bs s rest e λ h m p₁ v₁ q₁.
    let f = head_fits h v₁.0 in
    seq_back (pieces_codec h f.size_most 0 (num_pieces h.total_size h.piece_size)) _ m s rest q₁ λ ps m₂ p₂ v₂ q₂.
    seq_back (partials_codec h f 0 0 ps (omega (arith, v₂.0))) _ m₂ s rest q₂ λ ds m₃ p₃ v₃ q₃.
    let t = with_partials ds (with_pieces ps h) in
    next_back (get_extents t 5 [] m₃) _ s rest q₃ λ es m₄ p₄ q₄.
    next_back (get_listing t h.listing m₄) _ s rest q₄ λ l m₅ p₅ q₅.
    let lim : pieces_in t ≤ max_pieces = few_pieces h ps ds f v₂.0 in
    let x = extents_back t lim 5 [] m₃ es m₄ p₄ in
    let y = listing_back t lim h.listing l m₄ m₅ p₅ in
    let r : m₄ ≡ concat_map (number_record place_kind) (list_of l) ++ rest =
    y.0 ∙ ap (λ (k : List ℕ). concat_map (number_record place_kind) (list_of l) ++ k) (got_rest q₅) in
    subst (λ (z : Picker). (bs ≡ image z ++ rest) × ((well_formed z ≡ true) × (comes extent_kind (listed z ++ rest) ≡ false))) (got_value q₅) (
      parts_written h ps ds es l bs m m₂ m₃ m₄ rest p₁ p₂ p₃
          (x.written ∙ ap (λ (k : List ℕ). concat_map (number_record extent_kind) k ++ m₄) (sym x.joins))
          r y.1.1,
      (
        parts_ok h ps ds es l f v₁.0 v₂.0 v₂.1 v₃ (ap (extents_ok t []) x.joins ∙ x.ok) y.1.0,
        list_ends h ps ds es l rest (ap (comes extent_kind) (sym r) ∙ x.ends),
      ),
    )

-- where a picker is read, its image stands there, and it is well-formed
pub written_read : (bs : List ℕ) (s : Picker) (rest : List ℕ) → get_picker bs ≡ got s rest → (bs ≡ image s ++ rest) × (well_formed s ≡ true)
written_read bs s rest e = let r = all_read bs s rest e in (r.0, r.1.0)

-- and no extent record follows where the list has no place
pub read_ends : (bs : List ℕ) (s : Picker) (rest : List ℕ) → get_picker bs ≡ got s rest → comes extent_kind (listed s ++ rest) ≡ false
read_ends bs s rest e = (all_read bs s rest e).1.1

accepted-whole : (n : ℕ) (g : Got Picker) (s : Picker) → whole n g ≡ accepted s → g ≡ got s []
unfolding whole
accepted-whole n (got t []) s e = let z : t ≡ s = cc in ap (λ (x : Picker). got x []) z
accepted-whole n (got t (b ∷ bs)) s e = let z : ◌≡◌ {A = ℕ} 0 1 = cc in absurd (omega arith)
accepted-whole n (fault bs) s e = let z : ◌≡◌ {A = ℕ} 0 1 = cc in absurd (omega arith)

-- what is accepted is the image of the picker that it is accepted as, and that picker is well-formed
pub accepted-image : (bs : List ℕ) (s : Picker) → read_image bs ≡ accepted s → (image s ≡ bs) × (well_formed s ≡ true)
unfolding read_image
accepted-image bs s e =
    let r = written_read bs s [] (accepted-whole (len bs) (get_picker bs) s e) in
    (sym (r.0 ∙ append-nil (image s)), r.1)

accepted_value : (s t : Picker) → accepted s ≡ accepted t → s ≡ t
accepted_value s t e = cc

-- well-formed pickers with one image are one picker
pub image_injective : (s t : Picker) → well_formed s ≡ true → well_formed t ≡ true → image s ≡ image t → s ≡ t
image_injective s t v w e = accepted_value s t (sym (image-accepted s v) ∙ ap read_image e ∙ image-accepted t w)
