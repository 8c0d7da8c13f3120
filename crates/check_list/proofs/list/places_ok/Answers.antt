-- `check_pieces::places_ok` meets its contract. The loop's invariant: the places before k pass. Assumes nothing.
use Prim.Native.Nat.{◌+◌, ◌*◌, ◌/◌}
use mathlib.Core.Path.{◌≡◌}
use native.Mathlib.Omega.{arith}
use Rattle.check_pieces.proofs.HeadLaws.{list_most}
use Rattle.check_list.proofs.WalkLaws.{walking_start, walking_four, four_stop, walking_rest, decided}
use borrow.Author.Rules.{rules}
use Rattle.check_list.proofs.list.places_ok.Goals as goal

pub list_column-list-requires : goal.list_column-list-requires
list_column-list-requires c = c.requires.head_passed.0.in_words

pub loop-k-init : goal.loop-k-init
loop-k-init c = walking_start _ _ _ _ _ _ (omega arith) (omega arith)

pub four-last-requires : goal.four-last-requires
four-last-requires c = record {
  n_bound = (
    c.requires.head_passed.0.in_words.sizes.many,
    omega
        (arith, c.requires.pieces_in_bounds, c.loop-k.invariant.long),
  );
  k_in_bounds = (
    omega (
      arith,
      list_most _ _ c.requires.head_passed.0,
      c.requires.head_passed.1,
      c.list_column-list.ensures.long,
      c.requires.head_passed.0.in_words.sizes.many,
    ),
    omega (
      arith,
      list_most _ _ c.requires.head_passed.0,
      c.requires.head_passed.1,
      c.list_column-list.ensures.long,
      c.requires.head_passed.0.in_words.sizes.many,
    ),
  );
  le_last = c.loop-k.invariant.low;
}

pub returns-then-last-eq0 : goal.returns-then-last-eq0
returns-then-last-eq0 c = decided _ _ c.requires.head_passed.0 _
    c.list_column-list.ensures _
    c.requires.pieces_in_bounds _
    c.requires.head_passed.1 _ (four_stop _ _ _ _ _ _ _
    c.loop-k.last (4 * c.loop-k.k)
    c.loop-k.invariant (omega arith) _ _ c.four-last.ensures
    c.if-last-eq0.true)

pub loop-k-preserved : goal.loop-k-preserved
loop-k-preserved c =
    let next : 4 * c.loop-k.k + 4 ≡ 4 * (c.loop-k.k + 1) = omega arith in
    rw next at (walking_four _ _ _ _ _ _ _ c.loop-k.last (4 * c.loop-k.k) c.loop-k.invariant
    (omega arith) _ _ c.four-last.ensures c.if-last-eq0.false)

pub rest_ok-requires : goal.rest_ok-requires
rest_ok-requires c = record {
  n_bound = (
    c.requires.head_passed.0.in_words.sizes.many,
    omega
        (arith, c.requires.pieces_in_bounds, c.loop-k.invariant.long),
  );
  start_le_many = (
    omega arith,
    omega (
      arith,
      list_most _ _
          c.requires.head_passed.0,
      c.requires.head_passed.1,
      c.list_column-list.ensures.long,
      c.requires.head_passed.0.in_words.sizes.many,
    ),
    omega (
      arith,
      list_most _ _ c.requires.head_passed.0,
      c.requires.head_passed.1,
      c.list_column-list.ensures.long,
      c.requires.head_passed.0.in_words.sizes.many,
    ),
  );
  le_least = c.loop-k.invariant.low;
}

pub returns : goal.returns
returns c = decided _ _ c.requires.head_passed.0 _
    c.list_column-list.ensures _
    c.requires.pieces_in_bounds _
    c.requires.head_passed.1 _ (walking_rest _ _ _ _ _ _ _
    c.loop-k.last (4 * c.loop-k.k)
    c.loop-k.invariant _ (let all : 4 * (c.args.many / 4) ≡ 4 * c.loop-k.k = omega arith in rw all at c.rest_ok.ensures))
