-- What stands at a place of a list, and the three lists of the picker. Assumes nothing.
use mathlib.Core.Path.{◌≡◌, refl, sym, ap, ◌∙◌}
use mathlib.Core.Bool.{Bool, true, false, true≢false}
use mathlib.Core.List.{List, [], ◌∷◌}
use mathlib.Core.Option.{none, some}
use Prim.Native.Nat.{ℕ, zero, suc, ◌≤◌, ◌<◌}
use native.Mathlib.Nat.{le_of_suc-le-suc}
use native.Mathlib.Omega.{arith}
use lib.ListN.{get_elem?, get_or}
use Rattle.model.specs.Lists.{nth, len, each}
use Rattle.model.specs.State.{Listing, dirty, fresh, is_dirty, list_of, DownloadingPiece, Picker}
use Rattle.model.specs.pick.Pick.{no_partial}
use Rattle.model.specs.ask.Questions.{reply, one, nothing, stale_list, place_in, list_place, partial_at, recent_extent, ask_list_place}
use Rattle.model.proofs.sound.PieceLaws.{size_each, at_each_in}
use Rattle.memory_layout.specs.declared.shape.Shape.{Shape}
use Rattle.memory_layout.specs.Decode.{decode}
use Rattle.memory_fields.specs.Reading.{HeadSays, WordsSay}
use Rattle.memory_rows.specs.Lookup.{picker_in}
use Rattle.memory_rows.proofs.RisingLaws.{live_number, live-nth}
use Rattle.ask_picker.specs.Telling.{RowsSay}

-- ---- a list
module _ (l : List ℕ) (k : ℕ) where
  at_there : (m : List ℕ) (j : ℕ) → j < len m → get_elem? m j ≡ some (nth 0 m j)
  unfolding len nth
  at_there [] j h = absurd (omega arith)
  at_there (x ∷ xs) zero h = refl
  at_there (x ∷ xs) (suc j) h = at_there xs j (le_of_suc-le-suc h)

  at_past : (m : List ℕ) (j : ℕ) → len m ≤ j → get_elem? m j ≡ none
  unfolding len
  at_past [] j h = refl
  at_past (x ∷ xs) zero h = absurd (omega arith)
  at_past (x ∷ xs) (suc j) h = at_past xs j (le_of_suc-le-suc h)

  -- a place that is there
  pub placed_there : k < len l → one (nth 0 l k) ≡ place_in (get_elem? l k)
  unfolding place_in
  placed_there h = sym (ap place_in (at_there l k h))

  -- one that is not
  pub placed_past : len l ≤ k → nothing ≡ place_in (get_elem? l k)
  unfolding place_in
  placed_past h = sym (ap place_in (at_past l k h))

-- ---- partials
piece_of : DownloadingPiece → ℕ
piece_of d = d.piece

module _ (live : ℕ) (rows : List ℕ) (k : ℕ) where
  pub partial_there : k < live → (r : ℕ) → r ≡ get_or rows k 0 → RowsSay live rows (λ d. reply d (partial_at k)) (one r)
  unfolding reply piece_of
  partial_there h r e = record {
    is = λ s words cells v.
        let ds = (picker_in live rows words cells).partials in
        let m = live_number s live rows words cells v in
        ap one (e ∙ sym (live-nth s live rows words cells v k h no_partial) ∙ sym (at_each_in piece_of no_partial 0 ds k (omega arith)))
        ∙ placed_there (each piece_of ds) k (omega (arith, size_each piece_of ds));
  }

  pub partial_past : live ≤ k → RowsSay live rows (λ d. reply d (partial_at k)) nothing
  unfolding reply piece_of
  partial_past h = record {
    is = λ s words cells v.
        let ds = (picker_in live rows words cells).partials in
        let m = live_number s live rows words cells v in
        placed_past (each piece_of ds) k (omega (arith, size_each piece_of ds));
  }

-- ---- extents
module _ (s : Shape) (words : List ℕ) (k many : ℕ) (e : HeadSays words (λ d. len d.recent_extents) many) where
  pub extent_there : k < many → (r : ℕ) → HeadSays words (λ d. nth 0 d.recent_extents k) r
      → WordsSay s words (λ d. reply d (recent_extent k)) (one r)
  unfolding reply
  extent_there h r o = record {
    is = λ records cells q.
        ap one (o.is records cells) ∙ placed_there _ k (omega (arith, e.is records cells));
  }

  pub extent_past : many ≤ k → WordsSay s words (λ d. reply d (recent_extent k)) nothing
  unfolding reply
  extent_past h = record {
    is = λ records cells q.
        placed_past (decode records words cells).recent_extents k (omega (arith, e.is records cells));
  }

-- ---- the list
-- the same number
pub say_same : (s : Shape) (words : List ℕ) (field : Picker → ℕ) (r n : ℕ) → WordsSay s words field r → n ≡ r → WordsSay s words field n
say_same s words field r n o e = record { is = λ records cells q. e ∙ o.is records cells q }

listed_stale : (listing : Listing) (k : ℕ) → is_dirty listing ≡ true → stale_list ≡ list_place listing k
unfolding is_dirty list_place
listed_stale dirty k e = refl
listed_stale (fresh l) k e = absurd (true≢false (sym e))

listed_fresh : (listing : Listing) (k : ℕ) → is_dirty listing ≡ false → list_place listing k ≡ place_in (get_elem? (list_of listing) k)
unfolding is_dirty list_place list_of
listed_fresh dirty k e = absurd (true≢false e)
listed_fresh (fresh l) k e = refl

module _ (s : Shape) (words : List ℕ) (k : ℕ) (t : Bool) (e : HeadSays words (λ d. is_dirty d.listing) t) where
  pub place_stale : t ≡ true → WordsSay s words (λ d. reply d (ask_list_place k)) stale_list
  unfolding reply
  place_stale h = record { is = λ records cells q. listed_stale _ k (sym (e.is records cells) ∙ h) }

  module _ (h : t ≡ false) (many : ℕ) (m : WordsSay s words (λ d. len (list_of d.listing)) many) where
    pub place_there : k < many → (r : ℕ) → WordsSay s words (λ d. nth 0 (list_of d.listing) k) r
        → WordsSay s words (λ d. reply d (ask_list_place k)) (one r)
    unfolding reply
    place_there l r o = record {
      is = λ records cells q.
          ap one (o.is records cells q) ∙ placed_there _ k (omega (arith, m.is records cells q))
          ∙ sym (listed_fresh _ k (sym (e.is records cells) ∙ h));
    }

    pub place_past : many ≤ k → WordsSay s words (λ d. reply d (ask_list_place k)) nothing
    unfolding reply
    place_past l = record {
      is = λ records cells q.
          placed_past (list_of (decode records words cells).listing) k (omega (arith, m.is records cells q))
          ∙ sym (listed_fresh _ k (sym (e.is records cells) ∙ h));
    }
