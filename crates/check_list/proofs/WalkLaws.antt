-- Places of the list passed one after another: one more, four more, and what that decides. Assumes nothing.
use mathlib.Core.Path.{◌≡◌, refl, subst, ◌∙◌}
use mathlib.Core.Bool.{Bool, true, false}
use mathlib.Core.Logic.{◌≢◌}
use mathlib.Core.List.{List}
use Prim.Native.Nat.{ℕ, zero, suc, ◌+◌, ◌≤◌, ◌<◌}
use native.Mathlib.Omega.{arith}
use lib.ListN.{length, get_or}
use Rattle.memory_layout.specs.declared.shape.Shape.{Shape}
use Rattle.memory_layout.specs.Decode.{head_word}
use Rattle.memory_layout.specs.Bounds.{WordColumn}
use Rattle.check_pieces.specs.Parts.{HeadPassed}
use Rattle.check_list.specs.Places.{Stepped, Reached, OneFails, Decided, FourPassed, RestPassed}
use Rattle.check_list.specs.Answers.{PlaceTest}
use Rattle.check_list.proofs.ListTests.{Listing, listing_start, step_bad, step_next, places_end}

module _ (n : ℕ) (list start : List ℕ) where
  pub reach_start : Reached n list start 0 1 start
  unfolding Reached
  reach_start = (refl, refl)

  module _ (k last : ℕ) (ranks : List ℕ) (p : Reached n list start k last ranks) (now : ℕ) (exit : List ℕ)
      (q : Stepped n last (get_or list k 0) ranks now exit) where
    reach_suc : now ≢ 0 → Reached n list start (suc k) now exit
    unfolding Reached
    reach_suc z = record { last_before = last; ranks_before = ranks; reached = p; stepped = q; passed = z }

    pub reach_next : (next : ℕ) → next ≡ k + 1 → now ≢ 0 → Reached n list start next now exit
    reach_next next e z =
        let f : suc k ≡ next = omega arith in
        subst (λ (j : ℕ). Reached n list start j now exit) f (reach_suc z)

    pub reach_stop : (many : ℕ) → k < many → now ≡ 0 → OneFails n list start many
    reach_stop many h z = record {
      place = k;
      below = h;
      last = last;
      ranks = ranks;
      reached = p;
      exit = exit;
      stepped = subst (λ (r : ℕ). Stepped n last (get_or list k 0) ranks r exit) z q;
    }

-- one that fails fails among more
pub among_more : (n : ℕ) (list start : List ℕ) (few many : ℕ) → few ≤ many → OneFails n list start few → OneFails n list start many
among_more n list start few many h p =
    record {
      place = p.place;
      below = omega (arith, p.below);
      last = p.last;
      ranks = p.ranks;
      reached = p.reached;
      exit = p.exit;
      stepped = p.stepped;
    }

-- ---- four
module _ (n : ℕ) (list : List ℕ) (k last : ℕ) (entry : List ℕ) (a : ℕ) (ra : List ℕ) (qa : Stepped n last (get_or list k 0) entry a ra) where
  pub first_fails : a ≡ 0 → FourPassed n list k last entry 0 ra
  first_fails z = record {
    passes = λ w. absurd (w refl);
    fails = λ w start p. reach_stop n list start k last entry p a ra qa (k + 4) (omega arith) z;
    long = qa.long;
  }

  module _ (za : a ≢ 0) (b : ℕ) (rb : List ℕ) (qb : Stepped n a (get_or list (k + 1) 0) ra b rb) where
    at_second : (start : List ℕ) → Reached n list start k last entry → Reached n list start (k + 1) a ra
    at_second start p = reach_next n list start k last entry p a ra qa (k + 1) refl za

    pub second_fails : b ≡ 0 → FourPassed n list k last entry 0 rb
    second_fails z = record {
      passes = λ w. absurd (w refl);
      fails = λ w start p. reach_stop n list start (k + 1) a ra (at_second start p) b rb qb (k + 4) (omega arith) z;
      long = qb.long ∙ qa.long;
    }

    module _ (zb : b ≢ 0) (c : ℕ) (rc : List ℕ) (qc : Stepped n b (get_or list (k + 2) 0) rb c rc) where
      at_third : (start : List ℕ) → Reached n list start k last entry → Reached n list start (k + 2) b rb
      at_third start p = reach_next n list start (k + 1) a ra (at_second start p) b rb qb (k + 2) (omega arith) zb

      pub third_fails : c ≡ 0 → FourPassed n list k last entry 0 rc
      third_fails z = record {
        passes = λ w. absurd (w refl);
        fails = λ w start p. reach_stop n list start (k + 2) b rb (at_third start p) c rc qc (k + 4) (omega arith) z;
        long = qc.long ∙ qb.long ∙ qa.long;
      }

      pub fourth : c ≢ 0 → (d : ℕ) (rd : List ℕ) → Stepped n c (get_or list (k + 3) 0) rc d rd → FourPassed n list k last entry d rd
      fourth zc d rd qd =
          let at : (start : List ℕ) → Reached n list start k last entry → Reached n list start (k + 3) c rc
          = λ start p. reach_next n list start (k + 2) b rb (at_third start p) c rc qc (k + 3) (omega arith) zc in
          record {
            passes = λ z start p. reach_next n list start (k + 3) c rc (at start p) d rd qd (k + 4) (omega arith) z;
            fails = λ z start p. reach_stop n list start (k + 3) c rc (at start p) d rd qd (k + 4) (omega arith) z;
            long = qd.long ∙ qc.long ∙ qb.long ∙ qa.long;
          }

-- ---- a walk: from place `first` to place k
pub record Walking (n : ℕ) (list : List ℕ) (first many least : ℕ) (entry ranks : List ℕ) (last k : ℕ) : Type 0 where
  pub within : k ≤ many
  pub low : 1 ≤ last
  pub long : length ranks ≡ length entry
  pub of : (start : List ℕ) → Reached n list start first least entry → Reached n list start k last ranks

pub walking_start : (n : ℕ) (list : List ℕ) (first many least : ℕ) (entry : List ℕ) → first ≤ many → 1 ≤ least
    → Walking n list first many least entry entry least first
walking_start n list first many least entry h o = record { within = h; low = o; long = refl; of = λ start p. p }

module _ (n : ℕ) (list : List ℕ) (first many least : ℕ) (entry ranks : List ℕ) (last k : ℕ)
    (p : Walking n list first many least entry ranks last k) where
  module _ (h : k < many) (now : ℕ) (exit : List ℕ) (q : Stepped n last (get_or list k 0) ranks now exit) where
    pub walking_next : now ≢ 0 → Walking n list first many least entry exit now (k + 1)
    walking_next z = record {
      within = omega arith;
      low = omega (arith, z);
      long = q.long ∙ p.long;
      of = λ start r. reach_next n list start k last ranks (p.of start r) now exit q (k + 1) refl z;
    }

    pub walking_stop : now ≡ 0 → RestPassed n list first many least entry false
    unfolding Decided
    walking_stop z start r = reach_stop n list start k last ranks (p.of start r) now exit q many h z

  module _ (h : k + 4 ≤ many) (now : ℕ) (exit : List ℕ) (q : FourPassed n list k last ranks now exit) where
    pub walking_four : now ≢ 0 → Walking n list first many least entry exit now (k + 4)
    walking_four z = record {
      within = h;
      low = omega (arith, z);
      long = q.long ∙ p.long;
      of = λ start r. q.passes z start (p.of start r);
    }

    pub four_stop : now ≡ 0 → RestPassed n list first many least entry false
    unfolding Decided
    four_stop z start r = among_more n list start (k + 4) many h (q.fails z start (p.of start r))

  pub walking_end : many ≤ k → RestPassed n list first many least entry true
  unfolding Decided
  walking_end h start r =
      let e : k ≡ many = omega (arith, p.within) in
      record { last = last; ranks = ranks; reached = subst (λ (j : ℕ). Reached n list start j last ranks) e (p.of start r) }

  pub walking_rest : (t : Bool) → RestPassed n list k many last ranks t → RestPassed n list first many least entry t
  walking_rest t q start r = q start (p.of start r)

-- ---- what it decides
module _ (s : Shape) (words : List ℕ) (r : HeadPassed s words) (list : List ℕ) (el : WordColumn words s.pieces 1 list) (start : List ℕ)
    (wide : s.pieces ≤ length start) where
  reached_listing : (k last : ℕ) (ranks : List ℕ) → k ≤ head_word words 6 → Reached s.pieces list start k last ranks
      → Listing s.pieces (length start) words start ranks last k
  unfolding Reached
  reached_listing zero last ranks h p = rw (p.0, p.1) (listing_start s.pieces words start wide)
  reached_listing (suc k) last ranks h p =
      let e : k + 1 ≡ suc k = omega arith in
      subst (λ (j : ℕ). Listing s.pieces (length start) words start ranks last j) e
      (step_next s words r (length start) start p.ranks_before p.last_before k
      (reached_listing k p.last_before p.ranks_before (omega arith) p.reached) (omega arith) list el last ranks p.stepped
      p.passed)

  decision : (many : ℕ) → many ≡ head_word words 6 → (t : Bool) → Decided s.pieces list start many t → PlaceTest s.pieces t words start
  unfolding Decided
  decision many e true p =
      places_end s words r (length start) start p.ranks p.last many
      (reached_listing many p.last p.ranks (omega arith) p.reached) (omega arith)
  decision many e false p =
      let below = p.below in
      step_bad s words r (length start) start p.ranks p.last p.place
      (reached_listing p.place p.last p.ranks (omega (arith, below, e)) p.reached) (omega (arith, below, e)) list el 0 p.exit
      p.stepped refl

  pub decided : (many : ℕ) → many ≡ head_word words 6 → (t : Bool) → RestPassed s.pieces list 0 many 1 start t
      → PlaceTest s.pieces t words start
  decided many e t p = decision many e t (p start (reach_start s.pieces list start))
