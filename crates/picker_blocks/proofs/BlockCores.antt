-- The cores of the calls of a block, arm by arm: refused by the judge, or done. Piece and block are read off the numbers that are lent, so
-- each law takes the call by its two numbers. Assumes nothing.
use Rattle.std.specs.Prelude.{Err, Ok, Result, IsErrAnd, ⊤}
use mathlib.Core.Path.{◌≡◌, refl, sym, ap, subst, ◌∙◌}
use mathlib.Core.Bool.{Bool, true, false}
use mathlib.Core.List.{List}
use mathlib.Core.Option.{Option, some}
use Prim.Native.Nat.{ℕ, ◌<◌, ◌^◌}
use native.Mathlib.Omega.{arith}
use Rattle.types.specs.declared.refusal.Refusal.{Refusal}
use Rattle.types.specs.Peer.{named_peer}
use Rattle.model.specs.State.{Picker}
use Rattle.model.specs.list.Order.{Drawing, drawing}
use Rattle.model.specs.change.Changes.{Change, quietly}
use Rattle.model.specs.Calls.{Action, Answer, done, said, answering, changing, change_answer, doing, lent_peer, refusal, act}
use Rattle.memory_records.specs.declared.edits.Edit.{Edit}
use Rattle.memory_records.specs.declared.edits.Edit.TheVariants.{Keep}
use Rattle.memory_records.specs.Rows.{live_records, records_in}
use Rattle.memory_layout.specs.declared.shape.Shape.{Shape}
use Rattle.memory_layout.specs.Bounds.{WordsSpan, ShapeOf}
use Rattle.memory_layout.specs.Standing.{Changed, edit_records}
use Rattle.memory_layout.proofs.StandingLaws.{stands_shape}
use Rattle.memory_rows.specs.Lookup.{picker_in}
use Rattle.change_steps.specs.Whole.{Done, EditRoom}
use Rattle.change_tally.specs.RowsStanding.{RowsStand}
use Rattle.picker_calls.specs.declared.outcomes.CallStep.{CallStep}
use Rattle.picker_calls.specs.Outcomes.{judged}
use Rattle.picker_calls.specs.Cores.{Listless, Stood, Admitted, CoreCalled, CoreGives}
use Rattle.picker_calls.proofs.CallLaws.{core_done}
use Rattle.picker_calls.proofs.CoreLaws.{place_left, of_argument, of_argument_on, stood_at, denied}

-- a peer of 64 bits is the one that is lent
pub lent_named : (has : Bool) (peer : ℕ) → peer < 2 ^ 64 → lent_peer (named_peer has peer) ≡ named_peer has peer
unfolding lent_peer
lent_named true peer h = ap some (omega arith)
lent_named false peer h = refl

module _ (words cells rows counts : List ℕ) (lent : ℕ) (v : Result Shape Refusal) (g : Admitted words cells rows counts lent v) (s : Shape)
    (at : v ≡ Ok s) where
  -- the geometry of an admitted memory
  pub stood_shape : WordsSpan s words × ShapeOf s words
  stood_shape =
      let b = (stood_at words cells rows counts lent v g s at).stands.bounds in
      (b.spans.in_words, stands_shape s _ words cells b)

  -- so many records are live
  module _ (live : ℕ) (many : live ≡ live_records words) where
    stood_live : Stood s live lent rows counts words cells
    stood_live =
        let t = stood_at words cells rows counts lent v g s at in
        subst (λ (n : ℕ). Stood s n lent rows counts words cells) (t.rowed ∙ sym many) t

    -- what a change relies on
    pub stood_rows : RowsStand s live rows counts words cells
    stood_rows =
        let t = stood_live in
        record { stands = t.stands; many = t.many; counted = t.counted; long_rows = t.long_rows; long_counts = t.long_counts }

    module _ (call : ℕ → ℕ → Action) (listless : (i j : ℕ) → Listless (call i j)) (i j i₀ j₀ : ℕ) (ei : i ≡ i₀) (ej : j ≡ j₀)
        (r : Result ⊤ Refusal) (h : judged r ≡ refusal (picker_in live rows words cells) (call i j)) where
      -- refused by the judge
      pub block_denied : (why : Refusal) → r ≡ Err why → (q : Result CallStep Refusal) → IsErrAnd q (λ x. x ≡ why)
          → CoreGives words cells rows lent (call i₀ j₀) words cells q
      block_denied why e q k =
          let t = stood_at words cells rows counts lent v g s at in
          of_argument_on (λ (x : ℕ × ℕ). call x.0 x.1) (i, j) (i₀, j₀) (λ l. (ei l, ej l)) words cells rows lent words cells q
          (denied s lent rows counts words cells t (call i j) (listless i j) r
          (subst (λ (n : ℕ). judged r ≡ refusal (picker_in n rows words cells) (call i j)) (many ∙ sym t.rowed) h) why e q k)

      -- done: the answer and the picker after it
      module _ (e : r ≡ (Ok tt)) (edit : Edit) (room : EditRoom s live edit) (words' cells' : List ℕ) where
        pub block_acted : (answer : Answer) (after : Picker) → act (picker_in live rows words cells) (call i j) ≡ answering answer after
            → Changed s after words cells (edit_records edit (records_in live rows)) words' cells'
            → CoreCalled words cells rows lent (call i₀ j₀) words' cells' answer live edit
        block_acted answer after acts c =
            of_argument (λ (x : ℕ × ℕ). call x.0 x.1) (i, j) (i₀, j₀) (λ k. (ei k, ej k)) words cells rows lent words' cells'
            answer live edit
            (core_done s live lent rows counts words cells stood_live (call i j) (listless i j) (sym h ∙ ap judged e) answer after acts
            edit (place_left live s.places edit room.fits) words' cells' c)

        -- by a change that answers nothing
        pub block_done : (step : Drawing → Drawing)
            → act (picker_in live rows words cells) (call i j) ≡ doing (step (drawing 0 (picker_in live rows words cells)))
            → (used : ℕ)
            → Done s step (records_in live rows) words cells (edit_records edit (records_in live rows)) words' cells' used
            → CoreCalled words cells rows lent (call i₀ j₀) words' cells' (done used) live edit
        unfolding doing changing quietly change_answer
        block_done step acts used c =
            let w = step (drawing 0 (picker_in live rows words cells)) in
            block_acted (done used) w.picker (acts ∙ ap (λ (n : ℕ). answering (done n) w.picker) (sym c.draws)) c.changed

        -- by one that says true or false
        pub block_said : (mark : Drawing → Change)
            → act (picker_in live rows words cells) (call i j) ≡ changing (mark (drawing 0 (picker_in live rows words cells)))
            → (truth : Bool) (used : ℕ) → (mark (drawing 0 (picker_in live rows words cells))).answer ≡ some truth
            → Done s (λ w. (mark w).after) (records_in live rows) words cells (edit_records edit (records_in live rows)) words' cells' used
            → CoreCalled words cells rows lent (call i₀ j₀) words' cells' (said truth used) live edit
        unfolding changing change_answer
        block_said mark acts truth used says c =
            let m = mark (drawing 0 (picker_in live rows words cells)) in
            block_acted (said truth used) m.after.picker
            (acts
            ∙ (ap (λ (x : Option Bool). answering (change_answer x m.after.used) m.after.picker) says
            ∙ ap (λ (n : ℕ). answering (said truth n) m.after.picker) (sym c.draws))) c.changed
