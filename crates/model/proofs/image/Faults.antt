-- The place of the first fault: a record starts there, nothing before it is at fault, and no image has these bytes up to the end of that record.
use mathlib.Core.Path.{◌≡◌, refl, sym, ap, ◌∙◌, subst}
use mathlib.Core.Bool.{Bool, true}
use mathlib.Core.List.{List, [], ◌∷◌, ◌++◌}
use mathlib.Core.Option.{some}
use mathlib.Core.Logic.{◌⊎◌, inl, inr}
use Prim.Native.Nat.{ℕ, zero, suc, ◌+◌, ◌-◌, ◌≤◌}
use native.Mathlib.Omega.{arith}
use lib.ListN.{length, take, drop, take-append-drop}
use lib.Seq.{take_at, drop_at, take-take, take-add}
use Rattle.model.specs.Lists.{len}
use Rattle.model.specs.Bep3.{num_pieces}
use Rattle.model.specs.State.{Piece, Block, Picker, Listing, dirty, fresh, is_open, with_pieces, with_partials, blocks_in_piece}
use Rattle.model.specs.list.Order.{with_bucket}
use Rattle.model.specs.image.WellFormed.{state_ok, well_formed}
use Rattle.model.specs.image.Image.{head_kind, piece_kind, partial_kind, block_kind, extent_kind, place_kind, image, Got, got, fault, next}
use Rattle.model.specs.image.Image.{starts_with, judged, read_head, read_piece, read_block, read_last_block, read_partial, read_extent}
use Rattle.model.specs.image.Image.{read_place, get_pieces, get_blocks, partial_with, get_partial, get_partials, get_extents, get_order}
use Rattle.model.specs.image.Image.{get_listing, get_picker, Read, accepted, fault_at, whole, read_image}
use Rattle.model.proofs.image.Bytes.{size_append}
use Rattle.model.proofs.image.Parts.{open_read, shut_read, extents_end, extents_full, extents_more}
use Rattle.model.proofs.image.ImageLaws.{image-accepted}
use Rattle.model.proofs.image.Steady.{Whole, front_length, SameFront, first, same_first, Ended, ends_got, ends_fault, Steady, empty}
use Rattle.model.proofs.image.Steady.{steady_same, steady_ret, steady_next, steady_judged, steady_where}
use Rattle.model.proofs.base.Truths.{by_test}

-- ---- every reader is steady
pieces_steady : (s : Picker) (i n : ℕ) → Steady (get_pieces s i n)
unfolding get_pieces
pieces_steady s i zero = steady_ret []
pieces_steady s i (suc n) =
    steady_next (judged piece_kind (read_piece s i)) _ (steady_judged piece_kind (read_piece s i)) λ p.
    steady_next (get_pieces s (suc i) n) _ (pieces_steady s (suc i) n) λ ps. steady_ret (p ∷ ps)

blocks_steady : (fits : List Block → Bool) (n : ℕ) (before : List Block) → Steady (get_blocks fits before n)
unfolding get_blocks
blocks_steady fits zero before = steady_ret before
blocks_steady fits (suc zero) before =
    steady_next (judged block_kind (read_last_block fits before)) _ (steady_judged block_kind (read_last_block fits before)) λ b.
    steady_ret (before ++ (b ∷ []))
blocks_steady fits (suc (suc n)) before =
    steady_next (judged block_kind read_block) _ (steady_judged block_kind read_block) λ b. blocks_steady fits (suc n) (before ++ (b ∷ []))

partial_steady : (s : Picker) (i n : ℕ) (p : Piece) → Steady (get_partial s i n p)
unfolding get_partial
partial_steady s i n p =
    steady_next (judged partial_kind (read_partial i n)) _ (steady_judged partial_kind (read_partial i n)) λ f.
    steady_next (get_blocks (λ bs. state_ok p (partial_with i f bs)) [] (blocks_in_piece s i)) _ (blocks_steady (λ bs. state_ok p (partial_with i f bs)) (blocks_in_piece s i) []) λ bs.
    steady_ret (partial_with i f bs)

partials_steady : (s : Picker) (i n : ℕ) (ps : List Piece) → Steady (get_partials s i n ps)
unfolding get_partials
partials_steady s i n [] = steady_ret []
partials_steady s i n (p ∷ ps) =
    by_test (is_open p.state)
    (λ o. steady_same (get_partials s (suc i) n ps) (get_partials s i n (p ∷ ps)) (open_read s i n p ps o) (partials_steady s (suc i) n ps))
    (λ o.
    steady_same _ (get_partials s i n (p ∷ ps)) (shut_read s i n p ps o)
    (steady_next (get_partial s i n p) _ (partial_steady s i n p) λ d.
    steady_next (get_partials s (suc i) (suc n) ps) _ (partials_steady s (suc i) (suc n) ps) λ ds. steady_ret (d ∷ ds)))

order_steady : (s : Picker) (n : ℕ) (before : List ℕ) → Steady (get_order s n before)
unfolding get_order
order_steady s zero before = steady_ret before
order_steady s (suc n) before =
    steady_next (judged place_kind (read_place s before)) _ (steady_judged place_kind (read_place s before)) λ i. order_steady s n (before ++ (i ∷ []))

listing_steady : (s : Picker) (l : Listing) → Steady (get_listing s l)
unfolding get_listing
listing_steady s dirty = steady_ret dirty
listing_steady s (fresh l) =
    steady_next (get_order s (len (with_bucket s)) []) _ (order_steady s (len (with_bucket s)) []) λ is. steady_ret (fresh is)

-- a record that may not stand here
refusal_steady : {A : Type 0} → Steady {A = A} (λ bs. fault bs)
refusal_steady = record {
  on_got = λ bs a rest e. let z : ◌≡◌ {A = ℕ} 0 1 = cc in absurd (omega arith);
  on_fault = λ bs at e.
      let p : bs ≡ at = cc in
      record { front = []; splits = p; whole = empty; again = λ m h. refl; cut = ends_fault refl };
}

extents_steady : (s : Picker) (n : ℕ) (before : List ℕ) → Steady (get_extents s n before)
unfolding next judged starts_with
extents_steady s zero before =
    steady_where extent_kind before (λ bs. fault bs) (get_extents s zero before) (extents_full s before) (extents_end s zero before) refusal_steady refl
extents_steady s (suc n) before =
    steady_where extent_kind before (λ bs. next (judged extent_kind (read_extent s before) bs) (λ e. get_extents s n (before ++ (e ∷ []))))
    (get_extents s (suc n) before) (extents_more s n before) (extents_end s (suc n) before)
    (steady_next (judged extent_kind (read_extent s before)) _ (steady_judged extent_kind (read_extent s before)) λ e. extents_steady s n (before ++ (e ∷ [])))
    refl

-- the reader of pickers is steady
pub picker_steady : Steady get_picker
unfolding get_picker
picker_steady =
    steady_next (judged head_kind read_head) _ (steady_judged head_kind read_head) λ h.
    steady_next (get_pieces h 0 (num_pieces h.total_size h.piece_size)) _ (pieces_steady h 0 (num_pieces h.total_size h.piece_size)) λ ps.
    steady_next (get_partials h 0 0 ps) _ (partials_steady h 0 0 ps) λ ds.
    let s = with_partials ds (with_pieces ps h) in
    steady_next (get_extents s 5 []) _ (extents_steady s 5 []) λ es.
    steady_next (get_listing s h.listing) _ (listing_steady s h.listing) λ l. steady_ret _

-- ---- the place of the fault
-- all that a fault at place k tells
record FaultPlace (bs : List ℕ) (k : ℕ) : Type 0 where
  before : List ℕ
  behind : List ℕ
  splits : bs ≡ before ++ behind
  place : len before ≡ k
  records : Whole before
  stays : (m : List ℕ) → SameFront behind m → read_image (before ++ m) ≡ fault_at k
  clean : (read_image before ≡ fault_at k) ⊎ ((s : Picker) × (read_image before ≡ accepted s))

fault_value : (j k : ℕ) → ◌≡◌ {A = Read Picker} (fault_at j) (fault_at k) → j ≡ k
fault_value j k e = cc

less : (front m : List ℕ) → len (front ++ m) - len m ≡ len front
less front m = omega (arith, size_append front m)

-- the place of what is left
left_place : (bs front m : List ℕ) (k : ℕ) → bs ≡ front ++ m → ◌≡◌ {A = Read Picker} (fault_at (len bs - len m)) (fault_at k) → len front ≡ k
left_place bs front m k p e = sym (less front m) ∙ ap (λ (l : List ℕ). len l - len m) (sym p) ∙ fault_value (len bs - len m) k e

left_over : (front m : List ℕ) (s : Picker) (b : ℕ) → first m ≡ some b → get_picker (front ++ m) ≡ got s m → read_image (front ++ m) ≡ fault_at (len front)
unfolding read_image whole
left_over front [] s b f e = let z : ◌≡◌ {A = ℕ} 0 1 = cc in absurd (omega arith)
left_over front (c ∷ m) s b f e =
    ap (whole (len (front ++ (c ∷ m)))) e ∙ ap fault_at (less front (c ∷ m))

at_fault : (front m : List ℕ) → get_picker (front ++ m) ≡ fault m → read_image (front ++ m) ≡ fault_at (len front)
unfolding read_image whole
at_fault front m e = ap (whole (len (front ++ m))) e ∙ ap fault_at (less front m)

cut_read : (front : List ℕ) → Ended (get_picker front) → (read_image front ≡ fault_at (len front)) ⊎ ((s : Picker) × (read_image front ≡ accepted s))
unfolding read_image whole len
cut_read front (ends_got s e) = inr (s, ap (whole (len front)) e)
cut_read front (ends_fault e) = inl (ap (whole (len front)) e ∙ ap fault_at (omega arith))

by_case : (bs : List ℕ) (k : ℕ) (g : Got Picker) → get_picker bs ≡ g → whole (len bs) g ≡ fault_at k → FaultPlace bs k
unfolding whole
by_case bs k (got s []) p e = let z : ◌≡◌ {A = ℕ} 0 1 = cc in absurd (omega arith)
by_case bs k (got s (b ∷ m)) p e =
    let x = picker_steady.on_got bs s (b ∷ m) p in
    let h : len x.front ≡ k = left_place bs x.front (b ∷ m) k x.splits e in
    record {
      before = x.front;
      behind = b ∷ m;
      splits = x.splits;
      place = h;
      records = x.whole;
      stays = λ n w. left_over x.front n s b (same_first (b ∷ m) n w) (x.again n (same_first (b ∷ m) n w)) ∙ ap fault_at h;
      clean = rw h at (cut_read x.front (ends_got s x.cut));
    }
by_case bs k (fault m) p e =
    let x = picker_steady.on_fault bs m p in
    let h : len x.front ≡ k = left_place bs x.front m k x.splits e in
    record {
      before = x.front;
      behind = m;
      splits = x.splits;
      place = h;
      records = x.whole;
      stays = λ n w. at_fault x.front n (x.again n w) ∙ ap fault_at h;
      clean = rw h at (cut_read x.front x.cut);
    }

fault_place : (bs : List ℕ) (k : ℕ) → read_image bs ≡ fault_at k → FaultPlace bs k
unfolding read_image
fault_place bs k e = by_case bs k (get_picker bs) refl e

front_is : (bs : List ℕ) (k : ℕ) (x : FaultPlace bs k) → take k bs ≡ x.before
unfolding len
front_is bs k x = ap (take k) x.splits ∙ take_at x.before x.behind k x.place

back_is : (bs : List ℕ) (k : ℕ) (x : FaultPlace bs k) → drop k bs ≡ x.behind
unfolding len
back_is bs k x = ap (drop k) x.splits ∙ drop_at x.before x.behind k x.place

-- the place is one of the bytes, or their end
pub fault_within : (bs : List ℕ) (k : ℕ) → read_image bs ≡ fault_at k → k ≤ len bs
fault_within bs k e =
    let x = fault_place bs k e in
    let p = x.place in
    omega (arith, ap len x.splits, size_append x.before x.behind, p)

-- whole records stand before it, so that a record starts there
pub fault_starts : (bs : List ℕ) (k : ℕ) → read_image bs ≡ fault_at k → Whole (take k bs)
fault_starts bs k e = let x = fault_place bs k e in subst Whole (sym (front_is bs k x)) x.records

-- it is the first fault: the bytes before it are an image, or lack nothing but the record that should come next
pub fault_first : (bs : List ℕ) (k : ℕ) → read_image bs ≡ fault_at k
    → (read_image (take k bs) ≡ fault_at k) ⊎ ((s : Picker) × (read_image (take k bs) ≡ accepted s))
fault_first bs k e =
    let x = fault_place bs k e in
    subst (λ (l : List ℕ). (read_image l ≡ fault_at k) ⊎ ((s : Picker) × (read_image l ≡ accepted s))) (sym (front_is bs k x)) x.clean

-- the place behind the record at place k
unfoldable pub record_end : ℕ → List ℕ → ℕ
record_end k bs = k + front_length (drop k bs)

-- bytes that are the same up to the end of the record at fault are at fault there too. Where bs ends within that record, only bs itself is
pub fault_stays : (bs cs : List ℕ) (k : ℕ) → read_image bs ≡ fault_at k → take (record_end k bs) cs ≡ take (record_end k bs) bs → read_image cs ≡ fault_at k
unfolding record_end len
fault_stays bs cs k e h =
    let x = fault_place bs k e in
    let n = front_length (drop k bs) in
    let p : take k cs ≡ x.before =
    sym (take-take k (k + n) cs (omega arith)) ∙ ap (take k) h ∙ take-take k (k + n) bs (omega arith) ∙ front_is bs k x in
    let q : take n (drop k cs) ≡ take n (drop k bs) =
    sym (drop_at (take k cs) (take n (drop k cs)) k (ap length p ∙ x.place))
    ∙ ap (drop k) (sym (take-add k n cs) ∙ h ∙ take-add k n bs)
    ∙ drop_at (take k bs) (take n (drop k bs)) k (ap length (front_is bs k x) ∙ x.place) in
    let r : SameFront x.behind (drop k cs) = subst (λ (l : List ℕ). SameFront l (drop k cs)) (back_is bs k x) q in
    ap read_image (sym (take-append-drop k cs) ∙ ap (λ (l : List ℕ). l ++ drop k cs) p) ∙ x.stays (drop k cs) r

-- so no well-formed picker has an image with these bytes up to the end of the record at fault
pub fault_final : (bs : List ℕ) (k : ℕ) → read_image bs ≡ fault_at k → (s : Picker) → well_formed s ≡ true
    → take (record_end k bs) (image s) ≡ take (record_end k bs) bs → ⊥
fault_final bs k e s v h =
    let p : read_image (image s) ≡ fault_at k = fault_stays bs (image s) k e h in
    let q : read_image (image s) ≡ accepted s = image-accepted s v in
    let z : ◌≡◌ {A = ℕ} 0 1 = cc in
    omega arith
