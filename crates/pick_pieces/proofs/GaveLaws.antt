-- The whole pick from its start: what it gives, and what it leaves. Assumes nothing.
use mathlib.Core.Path.{◌≡◌, refl, sym, ap, subst, ◌∙◌}
use mathlib.Core.Bool.{Bool, true, false}
use mathlib.Core.List.{List, [], ◌∷◌}
use Prim.Native.Nat.{ℕ, zero, suc, ◌≤◌}
use native.Mathlib.Omega.{arith}
use lib.ListN.{length, get_or, replicate, length-replicate}
use Rattle.model.specs.Lists.{nth}
use Rattle.model.specs.State.{max_pieces}
use Rattle.model.specs.Options.{num_counters}
use Rattle.model.specs.list.Order.{Draws}
use Rattle.model.specs.pick.Blocks.{PickRequest, PickState}
use Rattle.model.specs.pick.Pick.{is_forced, start_pick, phases, pick_pieces}
use Rattle.memory_layout.specs.declared.shape.Shape.{Shape}
use Rattle.memory_rows.specs.Lookup.{picker_in}
use Rattle.pick_state.specs.declared.numbers.PickNumbers.{PickNumbers}
use Rattle.pick_state.specs.declared.request.PickRequest.{PickRequest as Request}
use Rattle.pick_state.specs.Requests.{request_of}
use Rattle.pick_state.specs.PickStates.{state_of}
use Rattle.pick_free.specs.Picking.{Picks}
use Rattle.pick_start.specs.Starting.{request_with, forced_numbers, effective_numbers, start_numbers}
use Rattle.pick_start.proofs.StartLaws.{Begun, start_begun, effective_is, start_is}
use Rattle.pick_phases.specs.Phases.{pick_phases, LowLoops, Ended}
use Rattle.pick_pieces.specs.declared.pieces.Picked.{Picked}
use Rattle.pick_pieces.specs.Whole.{loops_of, PickGave, PickLeft}
use Rattle.pick_pieces.proofs.WholeLaws.{phases_are}

-- ---- what is asked
-- the same bits
pub asked_bits : (forced : Bool) (q : Request) → (effective_numbers forced q).bits ≡ q.bits
unfolding effective_numbers forced_numbers
asked_bits true q = refl
asked_bits false q = refl

-- a pick that relies on what another relies on
pub picks_asked : {s : Shape} {live : ℕ} {rows words cells : List ℕ} {q q' : Request} → q'.bits ≡ q.bits → Picks s live rows words cells q
    → Picks s live rows words cells q'
picks_asked e p = record { asked = p.asked; bits = e ∙ p.bits }

-- ---- the counters
-- a list of seven
seven : (l : List ℕ) → length l ≡ 7
    → (get_or l 0 0 ∷ get_or l 1 0 ∷ get_or l 2 0 ∷ get_or l 3 0 ∷ get_or l 4 0 ∷ get_or l 5 0 ∷ get_or l 6 0 ∷ []) ≡ l
seven [] h = absurd (omega (arith, h))
seven (a ∷ []) h = absurd (omega (arith, h))
seven (a ∷ b ∷ []) h = absurd (omega (arith, h))
seven (a ∷ b ∷ c ∷ []) h = absurd (omega (arith, h))
seven (a ∷ b ∷ c ∷ d ∷ []) h = absurd (omega (arith, h))
seven (a ∷ b ∷ c ∷ d ∷ e ∷ []) h = absurd (omega (arith, h))
seven (a ∷ b ∷ c ∷ d ∷ e ∷ f ∷ []) h = absurd (omega (arith, h))
seven (a ∷ b ∷ c ∷ d ∷ e ∷ f ∷ g ∷ []) h = refl
seven (a ∷ b ∷ c ∷ d ∷ e ∷ f ∷ g ∷ i ∷ l) h = absurd (omega (arith, h))

-- what is answered of the numbers at the end
abbrev pub picked_from : (r : PickNumbers) (loops : List ℕ) → Picked
picked_from r loops =
    record {
      end = r.end;
      flags = r.flags;
      used = r.used;
      partial_loops = get_or loops 0 0;
      suggest_loops = get_or loops 1 0;
      reverse_rare_loops = get_or loops 2 0;
      rare_loops = get_or loops 3 0;
      rand_start_loops = get_or loops 4 0;
      rand_loops = get_or loops 5 0;
      busy_loops = get_or loops 6 0;
    }

-- ---- the whole
module _ (draws : Draws) {s : Shape} {live : ℕ} {rows words words' cells : List ℕ} (q : Request) (bytes suggestions : List ℕ) (end : ℕ)
    (forced : Bool)
    (ef : forced ≡ is_forced (picker_in live rows words cells) (request_with q bytes suggestions))
    {out aside : List ℕ} {ignored : List Bool} {loops : List ℕ} (ei : ignored ≡ replicate max_pieces false)
    (el : loops ≡ replicate num_counters 0)
    {r : PickNumbers} {out' aside' : List ℕ} {ignored' : List Bool} {loops' : List ℕ}
    (x : Ended (pick_phases draws (request_of (effective_numbers forced q) bytes) suggestions) s live rows words words' cells
    (effective_numbers forced q)
    (start_numbers (effective_numbers forced q) forced end) r out aside ignored loops out' aside' ignored' loops') where
  begun : Begun q end (start_numbers (effective_numbers forced q) forced end)
  begun = start_begun q end forced

  -- the state at the end is the definition's
  whole_is : state_of end (picker_in live rows words' cells) r out' aside' ignored' loops'
      ≡ pick_pieces draws (picker_in live rows words cells) (request_with q bytes suggestions)
  unfolding pick_pieces
  whole_is =
      let d = picker_in live rows words cells in
      let p = effective_numbers forced q in
      x.is end (omega (arith, begun.end))
      ∙ ap (pick_phases draws (request_of p bytes) suggestions) (start_is d end out aside ignored loops ei el q bytes suggestions forced ef)
      ∙ sym (phases_are draws p bytes suggestions (start_pick d (request_with q bytes suggestions)))
      ∙ ap (λ (a : PickRequest). phases draws a (start_pick d (request_with q bytes suggestions)))
      (sym (effective_is d q bytes suggestions forced ef))

  gave_is : PickGave (pick_pieces draws (picker_in live rows words cells) (request_with q bytes suggestions))
      (picker_in live rows words' cells) end out out'
      (picked_from r loops')
  unfolding state_of loops_of
  gave_is =
      let b = begun.end in
      let k = x.kept in
      record {
        picker = ap (λ (w : PickState). w.picker) whole_is;
        blocks = ap (λ (w : PickState). w.out) whole_is;
        flags = ap (λ (w : PickState). w.flags) whole_is;
        loops = seven loops' (x.long_loops ∙ (ap length el ∙ length-replicate {A = ℕ} 7 0)) ∙ ap (λ (w : PickState). w.loops) whole_is;
        used = ap (λ (w : PickState). w.used) whole_is;
        rises = omega (arith, k.rises, b);
        within = x.within;
        long = k.long;
        others = λ i h. k.others i (λ y z. h (omega arith) z);
      }

  left_is : PickLeft s live rows words words' cells q
  left_is = record { picks = picks_asked (sym (asked_bits forced q)) x.picks; words_kept = x.words_kept }

-- ---- by what the code has
-- what it asks, and the numbers it starts from
module _ (q : Request) (end : ℕ) (forced : Bool) (q' : Request) (eq : q' ≡ effective_numbers forced q) (t : PickNumbers)
    (et : t ≡ start_numbers q' forced end) where
  pub whole_begun : Begun q end t
  whole_begun =
      subst (λ (v : PickNumbers). Begun q end v) (sym (et ∙ ap (λ (p : Request). start_numbers p forced end) eq)) (start_begun q end forced)

  pub whole_picks : {s : Shape} {live : ℕ} {rows words cells : List ℕ} → Picks s live rows words cells q → Picks s live rows words cells q'
  whole_picks p = picks_asked (ap (λ (z : Request). z.bits) eq ∙ asked_bits forced q) p

  module _ (draws : Draws) {s : Shape} {live : ℕ} {rows words words' cells : List ℕ} (bytes suggestions : List ℕ)
      (ef : forced ≡ is_forced (picker_in live rows words cells) (request_with q bytes suggestions))
      {out aside : List ℕ} {ignored : List Bool} {loops : List ℕ} (ei : ignored ≡ replicate max_pieces false)
      (el : loops ≡ replicate num_counters 0)
      {r : PickNumbers} {out' aside' : List ℕ} {ignored' : List Bool} {loops' : List ℕ}
      (x : Ended (pick_phases draws (request_of q' bytes) suggestions) s live rows words words' cells q' t r out aside ignored loops out'
      aside' ignored' loops') where
    ended_at : Ended (pick_phases draws (request_of (effective_numbers forced q) bytes) suggestions) s live rows words words' cells
        (effective_numbers forced q)
        (start_numbers (effective_numbers forced q) forced end) r out aside ignored loops out' aside' ignored' loops'
    ended_at =
        subst (λ (v : PickNumbers). Ended (pick_phases draws (request_of (effective_numbers forced q) bytes) suggestions) s live rows words
        words' cells
        (effective_numbers forced q) v r out aside ignored loops out' aside' ignored' loops')
        (et ∙ ap (λ (p : Request). start_numbers p forced end) eq)
        (subst (λ (z : Request). Ended (pick_phases draws (request_of z bytes) suggestions) s live rows words words' cells z t r out aside
        ignored loops
        out' aside' ignored' loops') eq x)

    pub whole_gave : PickGave (pick_pieces draws (picker_in live rows words cells) (request_with q bytes suggestions))
        (picker_in live rows words' cells) end out out'
        (picked_from r loops')
    whole_gave = gave_is draws q bytes suggestions end forced ef ei el ended_at

    pub whole_left : PickLeft s live rows words words' cells q
    whole_left = left_is draws q bytes suggestions end forced ef ei el ended_at

-- no counter has moved yet
pub low_zero : LowLoops 1000000 (replicate 7 0)
unfolding nth
low_zero = record { low = low }
  where
    low : (k : ℕ) → nth 0 (replicate 7 0) k ≤ 1000000
    low zero = omega arith
    low (suc zero) = omega arith
    low (suc (suc zero)) = omega arith
    low (suc (suc (suc zero))) = omega arith
    low (suc (suc (suc (suc zero)))) = omega arith
    low (suc (suc (suc (suc (suc zero))))) = omega arith
    low (suc (suc (suc (suc (suc (suc zero)))))) = omega arith
    low (suc (suc (suc (suc (suc (suc (suc k))))))) = omega arith
