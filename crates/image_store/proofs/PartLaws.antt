-- An accepted image taken apart: its pieces, partials, extents and list by their places. Assumes nothing.
use Rattle.std.specs.Prelude.{IsSome, None, Option as Optional, Some}
use mathlib.Core.Path.{◌≡◌, refl, sym, ap, ap₂, ◌∙◌, subst}
use mathlib.Core.Bool.{Bool, true, false, cond, true≢false}
use mathlib.Core.List.{List, [], ◌∷◌}
use Prim.Native.Nat.{ℕ, ◌+◌, ◌*◌, ◌≤◌}
use native.Mathlib.Omega.{arith}
use native.Mathlib.Decide.{dec_lt}
use lib.Dec.{ltb}
use lib.ListN.{length, drop, length-drop}
use Rattle.model.specs.Lists.{len, from}
use Rattle.model.specs.Bep3.{num_pieces, whole_piece_blocks}
use Rattle.model.specs.State.{DownloadingPiece, Picker, Listing, dirty, fresh, max_extents, with_pieces, with_partials}
use Rattle.model.specs.State.{with_recent_extents, with_listing, pieces_in, blocks_per_piece}
use Rattle.model.specs.list.Order.{rank, with_bucket}
use Rattle.model.specs.image.Image.{head_kind, Got, got, fault, ret, next, judged, read_head, get_pieces, get_partials}
use Rattle.model.specs.image.Image.{get_extents, get_order, get_listing, get_picker, accepted, whole, read_image}
use Rattle.model.proofs.base.Counts.{count_le, length-filter, length-from}
use Rattle.model.proofs.image.Codec.{got_value, got_rest, next_back}
use Rattle.memory_layout.specs.Tables.{tabulate}
use Rattle.memory_layout.proofs.TableLaws.{tabulate-len, tabulate_ext}
use Rattle.image_pieces.specs.declared.head.Head.{Head}
use Rattle.image_pieces.specs.Heads.{head_step, head_picker}
use Rattle.image_pieces.specs.Pieces.{piece_place, piece_in, first_pieces}
use Rattle.image_pieces.proofs.NextLaws.{next-got, next-fault}
use Rattle.image_pieces.proofs.HeadLaws.{HeadGot, head_bad}
use Rattle.image_tail.specs.Extents.{extents_before}
use Rattle.image_judge.specs.Fronts.{get_tail, get_body, body_picker}
use Rattle.image_store.specs.Given.{Image, PieceTold, PiecesTold, Extents, Places, Tail}
use Rattle.image_store.proofs.FoundLaws.{pieces_found, ExtentsFound, extents_found, order_found}

-- ---- the whole
accepted-got : (n : ℕ) (g : Got Picker) (p : Picker) → whole n g ≡ accepted p → g ≡ got p []
unfolding whole
accepted-got n (got t []) p e = let z : t ≡ p = cc in ap (λ (x : Picker). got x []) z
accepted-got n (got t (b ∷ bs)) p e = let z : ◌≡◌ {A = ℕ} 0 1 = cc in absurd (omega arith)
accepted-got n (fault bs) p e = let z : ◌≡◌ {A = ℕ} 0 1 = cc in absurd (omega arith)

pub image_got : (bytes : List ℕ) (p : Picker) → read_image bytes ≡ accepted p → get_picker bytes ≡ got p []
unfolding read_image
image_got bytes p e = accepted-got (len bytes) (get_picker bytes) p e

-- a head stands in front
pub head_there : {X : Type 0} (bytes : List ℕ) → Image bytes → None ≡ head_step (judged head_kind read_head bytes) → X
unfolding get_picker
head_there bytes image f =
    let e = next-fault (judged head_kind read_head bytes) (λ h. λ l. next (get_pieces h 0 (num_pieces h.total_size h.piece_size) l) _)
    (drop 0 bytes) (head_bad bytes f) in
    let g = sym e ∙ image_got bytes image.picker image.is in
    let z : ◌≡◌ {A = ℕ} 0 1 = cc in
    absurd (omega arith)

pub head_found : (bytes : List ℕ) → Image bytes → (r : Optional Head) → r ≡ head_step (judged head_kind read_head bytes) → IsSome r
head_found bytes image None f = head_there bytes image f
head_found bytes image (Some head) f = refl

-- ---- its parts
pub record Parts (head : Head) (n : ℕ) (bytes : List ℕ) (p : Picker) : Type 0 where
  pub told : PiecesTold n bytes
  pub partials : List DownloadingPiece
  pub partials_rest : List ℕ
  pub partials_are : get_partials (head_picker head) 0 0 (first_pieces bytes n) (drop (piece_place n) bytes) ≡ got partials partials_rest
  pub extents : List ℕ
  pub extents_rest : List ℕ
  pub extents_are : get_extents (body_picker head n bytes partials) max_extents [] partials_rest ≡ got extents extents_rest
  pub listing : Listing
  pub listing_is : get_listing (body_picker head n bytes partials) (head_picker head).listing extents_rest ≡ got listing []
  pub is : with_listing listing (with_recent_extents extents (body_picker head n bytes partials)) ≡ p

module _ (bytes : List ℕ) (head : Head) (g : HeadGot bytes head) (n : ℕ) (en : n ≡ num_pieces head.total head.size) (p : Picker)
    (e : get_picker bytes ≡ got p []) where
  pieces_next : get_picker bytes ≡ next (get_pieces (head_picker head) 0 n (drop 24 bytes)) (λ ps. get_body (head_picker head) ps)
  unfolding get_picker get_body get_tail head_picker
  pieces_next =
      next-got (judged head_kind read_head bytes)
      (λ h. λ l. next (get_pieces h 0 (num_pieces h.total_size h.piece_size) l) (λ ps. get_body h ps)) (head_picker head) (drop 24 bytes)
      g.is
      ∙ ap (λ (m : ℕ). next (get_pieces (head_picker head) 0 m (drop 24 bytes)) (λ ps. get_body (head_picker head) ps)) (sym en)

  -- pieces by place, and the body behind them
  record Front : Type 0 where
    told : PiecesTold n bytes
    body : get_body (head_picker head) (first_pieces bytes n) (drop (piece_place n) bytes) ≡ got p []

  front : Front
  unfolding first_pieces
  front =
      next_back (get_pieces (head_picker head) 0 n (drop 24 bytes)) (λ ps. get_body (head_picker head) ps) p [] (sym pieces_next
      ∙ e) λ ps m e₁ q₁.
      let f = pieces_found (head_picker head) bytes n 0 ps m g.headed.room e₁ in
      let z : 0 + n ≡ n = omega arith in
      let a : ps ≡ tabulate n (piece_in bytes)
      = f.is ∙ tabulate_ext n (λ j. piece_in bytes (0 + j)) (piece_in bytes) (λ j l. ap (piece_in bytes) (omega arith)) in
      let b : m ≡ drop (piece_place n) bytes = f.behind ∙ ap (λ (k : ℕ). drop (piece_place k) bytes) z in
      record {
        told = record {
          room = omega (arith, f.room);
          told = λ i l. let y : 0 + i
              ≡ i = omega arith in subst (PieceTold bytes) y (f.told i l);
        };
        body = ap₂ (get_body (head_picker head)) (sym a) (sym b) ∙ q₁;
      }

  pub parts : Parts head n bytes p
  unfolding get_body get_tail body_picker
  parts =
      next_back (get_partials (head_picker head) 0 0 (first_pieces bytes n) (drop (piece_place n) bytes))
      (λ ds. get_tail (with_partials ds (with_pieces (first_pieces bytes n) (head_picker head))) (head_picker head).listing) p [] front.body
      λ ds m₁ e₁ q₁.
      let s = with_partials ds (with_pieces (first_pieces bytes n) (head_picker head)) in
      next_back (get_extents s max_extents [] m₁)
      (λ es. λ m. next (get_listing s (head_picker head).listing m) (λ l. ret (with_listing l (with_recent_extents es s)))) p [] q₁
      λ es m₂ e₂ q₂.
      next_back (get_listing s (head_picker head).listing m₂) (λ l. ret (with_listing l (with_recent_extents es s))) p [] q₂ λ l m₃ e₃ q₃.
      record {
        told = front.told;
        partials = ds;
        partials_rest = m₁;
        partials_are = e₁;
        extents = es;
        extents_rest = m₂;
        extents_are = e₂;
        listing = l;
        listing_is = e₃ ∙ ap (got l) (got_rest q₃);
        is = got_value q₃;
      }

-- the geometry of the picker is the head's
module _ (bytes : List ℕ) (p : Picker) (e : read_image bytes ≡ accepted p) (head : Head) (g : HeadGot bytes head) where
  all_parts : Parts head (num_pieces head.total head.size) bytes p
  all_parts = parts bytes head g (num_pieces head.total head.size) refl p (image_got bytes p e)

  pub pieces_in_lem : pieces_in p ≡ num_pieces head.total head.size
  unfolding pieces_in with_listing with_recent_extents body_picker with_partials with_pieces first_pieces
  pieces_in_lem = ap pieces_in (sym all_parts.is) ∙ tabulate-len (num_pieces head.total head.size) (piece_in bytes)

  pub blocks_in : blocks_per_piece p ≡ whole_piece_blocks head.size
  unfolding blocks_per_piece with_listing with_recent_extents body_picker with_partials with_pieces head_picker
  blocks_in = ap blocks_per_piece (sym all_parts.is)

-- ---- extents and list by place
pub record TailFound (head : Head) (n at : ℕ) (bytes es : List ℕ) (l : Listing) : Type 0 where
  pub extents : ℕ
  pub are : Extents at bytes extents
  pub extents_is : es ≡ extents_before at extents bytes
  pub places : ℕ
  pub list : Places (at + 5 * extents) n bytes places
  pub listing_is : l ≡ cond head.dirty dirty (fresh (extents_before (at + 5 * extents) places bytes))
  pub idle : head.dirty ≡ true → places ≡ 0

pieces_are : (head : Head) (n : ℕ) (bytes : List ℕ) (ds : List DownloadingPiece) → pieces_in (body_picker head n bytes ds) ≡ n
unfolding pieces_in body_picker with_partials with_pieces first_pieces
pieces_are head n bytes ds = tabulate-len n (piece_in bytes)

bucket_few : (s : Picker) → len (with_bucket s) ≤ pieces_in s
unfolding with_bucket len
bucket_few s =
    let f : ℕ → Bool = λ i. ltb 0 (rank s i) in
    omega (arith, length-filter f (from 0 (pieces_in s)), count_le f (from 0 (pieces_in s)), length-from 0 (pieces_in s))

-- nothing is left behind the last place
rest_none : (bytes : List ℕ) (k : ℕ) → [] ≡ drop k bytes → k ≤ length bytes → k ≡ length bytes
rest_none bytes k e h =
    let z : 0 ≡ length (drop k bytes) = ap length e in
    omega (arith, length-drop k bytes)

module _ (head : Head) (n at : ℕ) (bytes : List ℕ) (ds : List DownloadingPiece) (es rest : List ℕ) (l : Listing) (room : at ≤ length bytes)
    (e : get_extents (body_picker head n bytes ds) max_extents [] (drop at bytes) ≡ got es rest)
    (f : get_listing (body_picker head n bytes ds) (head_picker head).listing rest ≡ got l []) where
  x : ExtentsFound max_extents at bytes [] es rest
  x = extents_found (body_picker head n bytes ds) bytes max_extents at [] es rest room e

  abbrev place : ℕ
  place = at + 5 * x.many

  listed : (d : Bool) → head.dirty ≡ d → get_listing (body_picker head n bytes ds) (cond d dirty (fresh [])) (drop place bytes) ≡ got l []
      → TailFound head n at bytes es l
  unfolding get_listing extents_before tabulate
  listed true ed g =
      let k : place ≡ length bytes = rest_none bytes place (sym (got_rest g)) x.room in
      record {
        extents = x.many;
        are = record { most = x.most; room = x.room; come = x.come; stop = λ h. x.stop };
        extents_is = x.is;
        places = 0;
        list = record { few = omega arith; fills = omega (arith, k); low = λ j h. absurd (omega arith) };
        listing_is = sym (got_value g) ∙ ap (λ (d : Bool). cond d dirty (fresh (extents_before place 0 bytes))) (sym ed);
        idle = λ h. refl;
      }
  listed false ed g =
      next_back (get_order (body_picker head n bytes ds) (len (with_bucket (body_picker head n bytes ds))) [] (drop place bytes))
      (λ is. ret (fresh is)) l [] g λ is m e₁ q₁.
      let s = body_picker head n bytes ds in
      let many = len (with_bucket s) in
      let o = order_found s bytes many place [] is m x.room e₁ in
      let k : place + 5 * many ≡ length bytes = rest_none bytes (place + 5 * many) (sym (sym o.behind ∙ got_rest q₁)) o.room in
      record {
        extents = x.many;
        are = record { most = x.most; room = x.room; come = x.come; stop = λ h. x.stop };
        extents_is = x.is;
        places = many;
        list = record {
          few = omega (arith, bucket_few s, pieces_are head n bytes ds);
          fills = k;
          low = λ j h. omega (arith, o.low j h, pieces_are head n bytes ds);
        };
        listing_is =
            sym (got_value q₁) ∙ ap fresh o.is
            ∙ ap (λ (d : Bool). cond d dirty (fresh (extents_before place many bytes))) (sym ed);
        idle = λ h. absurd (true≢false (sym h ∙ ed));
      }

  pub tail_found : TailFound head n at bytes es l
  unfolding head_picker
  tail_found =
      listed head.dirty refl (ap (get_listing (body_picker head n bytes ds) (cond head.dirty dirty (fresh []))) (sym x.behind) ∙ f)

-- ---- counts are one
pub extents_one : (at : ℕ) (bytes : List ℕ) (a b : ℕ) → Extents at bytes a → Extents at bytes b → a ≡ b
extents_one at bytes a b p q = elim (dec_lt a b) [
  | yes h ↦ absurd (true≢false (sym (q.come a h) ∙ p.stop (omega (arith, q.most))))
  | no h ↦ elim (dec_lt b a) [
    | yes k ↦ absurd (true≢false (sym (p.come b k) ∙ q.stop (omega (arith, p.most))))
    | no k ↦ omega arith
  ]
]

pub tail_of : (head : Head) (n at : ℕ) (bytes es : List ℕ) (l : Listing) → TailFound head n at bytes es l → Tail at n bytes
tail_of head n at bytes es l t = record { extents = t.extents; are = t.are; places = t.places; list = t.list }
