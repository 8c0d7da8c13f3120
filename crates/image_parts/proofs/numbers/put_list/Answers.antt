-- `put_list` meets its contract: after k turns k places are there. Assumes nothing.
use Rattle.memory_layout.proofs.OffsetLaws.{head_in}
use mathlib.Core.Path.{◌≡◌, ap, ◌∙◌}
use Prim.Native.Nat.{◌<◌}
use Rattle.model.specs.Lists.{nth}
use Rattle.model.specs.image.Image.{body_length}
use Rattle.list_entries.specs.Words.{listed_piece}
use Rattle.memory_layout.specs.Decode.{head_word, list_held}
use Rattle.image_parts.proofs.RunLaws.{run_start, run_step, run_end, run_fits}
use Rattle.image_parts.proofs.RecordMeanings.{number_long, number_put}
use native.Mathlib.Omega.{arith}
use Rattle.image_parts.proofs.numbers.put_list.Goals as goal

pub overflow_add-step : goal.overflow_add-step
unfolding body_length nth
overflow_add-step c = let e : c.body_length-step.result ≡ 4 = c.body_length-step.ensures in omega arith

pub head_word-requires : goal.head_word-requires
head_word-requires c = record {
  in_bounds = head_in _ _ c.requires.words_span.0;
  k_bound = omega arith;
}

pub loop-k-init : goal.loop-k-init
loop-k-init c = (omega arith, run_start _ _ _ _ (omega (arith, c.requires.words_in_bounds)))

pub piece_word-requires : goal.piece_word-requires
piece_word-requires c = let e = c.u64_to_usize-many.ensures ∙ c.head_word.ensures in
    record {
      words_span = c.requires.words_span.0;
      f_bound = (omega arith, omega (arith, c.loop-k-test.true, c.requires.words_span.1));
    }

pub put_number-requires : goal.put_number-requires
put_number-requires c = let e : c.u64_to_usize-many.result ≡ head_word c.args.words.now 6 = c.u64_to_usize-many.ensures ∙ c.head_word.ensures in
    let h : c.loop-k.k < head_word c.args.words.now 6 = omega (arith, c.loop-k-test.true) in
    record {
      at_in_bounds = run_fits _ _ 5 _ _ _ _ _ _ (λ j. number_long _ _) c.loop-k.invariant.1 h c.requires.words_in_bounds;
      kind_bound = omega arith;
    }

pub overflow_add-next : goal.overflow_add-next
unfolding body_length nth
overflow_add-next c = let e : c.u64_to_usize-many.result ≡ head_word c.args.words.now 6 = c.u64_to_usize-many.ensures ∙ c.head_word.ensures in
    let h : c.loop-k.k < head_word c.args.words.now 6 = omega (arith, c.loop-k-test.true) in
    let b : c.body_length-step.result ≡ 4 = c.body_length-step.ensures in
    let r = run_fits _ _ 5 _ _ _ _ _ _ (λ j. number_long _ _) c.loop-k.invariant.1 h c.requires.words_in_bounds in
    omega arith

pub loop-k-preserved : goal.loop-k-preserved
unfolding body_length nth listed_piece
loop-k-preserved c = let b : c.body_length-step.result ≡ 4 = c.body_length-step.ensures in
    (omega arith, run_step _ _ 5 _ _ _ _ _ _ _ (number_long _ _) c.loop-k.invariant.1 (number_put _ _ _ _ _ _ (ap listed_piece c.piece_word.ensures) c.put_number.ensures) (omega arith))

pub shape_of-bytes : goal.shape_of-bytes
shape_of-bytes c = c.loop-k.invariant.1.put.long

pub returns : goal.returns
unfolding list_held
returns c = let e = c.u64_to_usize-many.ensures ∙ c.head_word.ensures in
    run_end _ _ _ _ _ _ _ _ c.loop-k.invariant.1 (omega (arith, c.loop-k.invariant.0))
