-- `have_piece` meets its contract. Assumes nothing.
use Rattle.ask_partial.proofs.FlagLaws.{have_says, have_flushed}
use Rattle.memory_fields.specs.Reading.{CellsSay}
use Rattle.model.specs.State.{piece_at}
use Rattle.model.specs.ask.Questions.{reply_piece, flag}
use mathlib.Core.Logic.{inl}
use mathlib.Core.Path.{refl, ap, subst, ◌∙◌}
use borrow.Author.Rules.{rules}
use Rattle.ask_partial.proofs.flags.have_piece.Goals as goal

pub returns-then-flushed : goal.returns-then-flushed
unfolding reply_piece
returns-then-flushed c = let e = subst (CellsSay c.args.s c.args.cells.now (λ d. (piece_at d c.args.i).flushed)) c.if-flushed.true c.flushed.ensures in
    record { is = λ words v. ap flag ((have_flushed c.args.s c.args.live c.args.rows.now c.args.cells.now c.args.i e).is words v) }

pub flag_of-requires : goal.flag_of-requires
flag_of-requires c = record {
  live_bound = c.requires.live_bound;
  rows_value = c.requires.rows_value;
  weight = inl refl;
}

pub returns : goal.returns
unfolding reply_piece
returns c = let e = subst (CellsSay c.args.s c.args.cells.now (λ d. (piece_at d c.args.i).flushed)) c.if-flushed.false c.flushed.ensures in
    let f = have_says c.args.live c.args.rows.now c.args.i c.flag_of.result c.args.s c.args.cells.now _ e c.flag_of.ensures in
    record { is = λ words v. ap flag (c.unwrap_or.ensures ∙ f.is words v) }
