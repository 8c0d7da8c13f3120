-- Blocks set aside, then the end game. Assumes nothing.
use mathlib.Core.Path.{◌≡◌, refl, sym, ap, ◌∙◌}
use mathlib.Core.Bool.{Bool, true, false, ◌||◌}
use mathlib.Core.List.{List}
use Prim.Native.Nat.{ℕ, ◌+◌, ◌≤◌, ◌<◌}
use native.Mathlib.Omega.{arith}
use lib.Dec.{eqb}
use lib.ListN.{length}
use borrow.Author.Tests.{eqb-false}
use Rattle.types.specs.Bits.{meets, union}
use Rattle.model.specs.Lists.{unless}
use Rattle.model.specs.State.{Picker}
use Rattle.model.specs.Options.{on_parole, backup1}
use Rattle.model.specs.list.Order.{Draws}
use Rattle.model.specs.pick.Blocks.{PickState, option, spent, flagged, append_blocks}
use Rattle.model.specs.pick.Pick.{pick_end_game, pick_rest}
use Rattle.model.proofs.base.Truths.{or_no_left}
use Rattle.pick_state.specs.declared.numbers.PickNumbers.{PickNumbers}
use Rattle.pick_state.specs.declared.request.PickRequest.{PickRequest}
use Rattle.pick_state.specs.Requests.{request_of}
use Rattle.pick_state.specs.PickStates.{with_flags, contiguous_of, state_of, OutKept}
use Rattle.pick_state.proofs.DidLaws.{kept_then}
use Rattle.pick_append.specs.Appending.{Appended}
use Rattle.pick_rest.specs.Game.{EndGameDid, RestDid}

module _ (t f : PickNumbers) (e : f ≡ with_flags (union t.flags backup1) t) where
  pub flag_end : f.end ≡ t.end
  unfolding with_flags
  flag_end = ap (λ (v : PickNumbers). v.end) e

  pub flag_left : f.left ≡ t.left
  unfolding with_flags
  flag_left = ap (λ (v : PickNumbers). v.left) e

  pub flag_aside : f.aside ≡ t.aside
  unfolding with_flags
  flag_aside = ap (λ (v : PickNumbers). v.aside) e

  pub flag_used : f.used ≡ t.used
  unfolding with_flags
  flag_used = ap (λ (v : PickNumbers). v.used) e

  flag_state : (start : ℕ) (d : Picker) (out aside : List ℕ) (ignored : List Bool) (loops : List ℕ)
      → state_of start d f out aside ignored loops ≡ flagged backup1 (state_of start d t out aside ignored loops)
  unfolding with_flags state_of flagged contiguous_of
  flag_state start d out aside ignored loops = λ m. state_of start d (e m) out aside ignored loops

  module _ (u : PickNumbers) (out out₁ aside : List ℕ) (x : Appended f u out out₁ aside) where
    -- where blocks are still wanted there is room for one
    pub rest_room : (parole : Bool) → (eqb u.left 0 || parole) ≡ false → t.end + t.left ≤ length out → length out₁ ≡ length out → u.end < length out₁
    rest_room parole h l k =
        let n = eqb-false u.left 0 (or_no_left (eqb u.left 0) parole h) in
        let a = flag_end in
        let b = flag_left in
        let c = x.total in
        omega (arith, n)

    pub rest_used : u.used ≡ t.used
    rest_used = x.used ∙ flag_used

    kept_is : (d : Picker) (ignored : List Bool) (loops : List ℕ) → OutKept t u out out₁
    kept_is d ignored loops =
        let k = (x.worked d ignored loops).did.kept in
        let z = flag_end in
        record {
          rises = let r = k.rises in omega arith;
          long = k.long;
          others = λ j o. k.others j (λ v w. o (omega arith) w);
        }

    first_is : (start : ℕ) (d : Picker) (ignored : List Bool) (loops : List ℕ) → start ≤ t.end
        → state_of start d u out₁ aside ignored loops ≡ append_blocks (flagged backup1 (state_of start d t out aside ignored loops))
    first_is start d ignored loops h =
        let z = flag_end in
        (x.worked d ignored loops).did.is start (omega arith) ∙ ap append_blocks (flag_state start d out aside ignored loops)

    module _ (draws : Draws) (q : PickRequest) (bytes : List ℕ) (d : Picker) (loops : List ℕ) (parole : Bool)
        (ep : parole ≡ meets q.options.0 on_parole) where
      test_is : (start : ℕ) (ignored : List Bool)
          → (spent (state_of start d u out₁ aside ignored loops) || option on_parole (request_of q bytes)) ≡ (eqb u.left 0 || parole)
      unfolding spent state_of option request_of
      test_is start ignored = ap (λ (b : Bool). eqb u.left 0 || b) (sym ep)

      whole_is : (start : ℕ) (ignored : List Bool) → start ≤ t.end
          → unless (eqb u.left 0 || parole) (pick_end_game draws (request_of q bytes)) (state_of start d u out₁ aside ignored loops)
          ≡ pick_rest draws (request_of q bytes) (state_of start d t out aside ignored loops)
      unfolding pick_rest
      whole_is start ignored h =
          ap (λ (b : Bool). unless b (pick_end_game draws (request_of q bytes)) (state_of start d u out₁ aside ignored loops)) (sym (test_is start ignored))
          ∙ ap (λ (v : PickState). unless (spent v || option on_parole (request_of q bytes)) (pick_end_game draws (request_of q bytes)) v)
          (first_is start d ignored loops h)

      pub rest_none : (eqb u.left 0 || parole) ≡ true → RestDid draws (request_of q bytes) d t u out out₁ aside loops loops
      unfolding unless
      rest_none h = record {
        worked = λ ignored. record {
          did = record {
            is = λ start s.
                ap (λ (b : Bool). unless b (pick_end_game draws (request_of q bytes)) (state_of start d u out₁ aside ignored loops)) (sym h)
                ∙ whole_is start ignored s;
            kept = kept_is d ignored loops;
            long_aside = refl;
            long_ignored = refl;
            long_loops = refl;
          };
          within = (x.worked d ignored loops).within;
        };
      }

      pub rest_some : (eqb u.left 0 || parole) ≡ false → (r : PickNumbers) (out₂ loops₂ : List ℕ)
          → EndGameDid draws (request_of q bytes) d u r out₁ out₂ loops loops₂ → RestDid draws (request_of q bytes) d t r out out₂ aside loops loops₂
      unfolding unless
      rest_some h r out₂ loops₂ y = record {
        worked = λ ignored.
            let w = y.worked aside ignored in
            record {
              did = record {
                is = λ start s. let k = (kept_is d ignored loops).rises in
                    w.did.is start (omega arith)
                    ∙ ap (λ (b : Bool). unless b (pick_end_game draws (request_of q bytes)) (state_of start d u out₁ aside ignored loops)) (sym h)
                    ∙ whole_is start ignored s;
                kept = kept_then (kept_is d ignored loops) w.did.kept;
                long_aside = refl;
                long_ignored = refl;
                long_loops = w.did.long_loops;
              };
              within = w.within;
            };
      }
