-- `lay_pieces` meets its contract. The loop's invariant: the numbers of so many pieces are laid.
use mathlib.Core.Path.{◌≡◌, refl}
use Prim.Native.Nat.{◌+◌, ◌*◌, ◌-◌, ◌/◌}
use native.Mathlib.Omega.{arith}
use Rattle.image_lay.proofs.LaidLaws.{laid_start, four_start, laid_end, four_end, laid_on, four_on, fields_on}
use Rattle.image_lay_pieces.proofs.pieces.lay_pieces.Goals as goal

pub loop-k-init : goal.loop-k-init
loop-k-init c = (laid_start _ _ _, four_start _ _ _ _ _ _ _ _ _, refl)

pub lay_stretch-requires : goal.lay_stretch-requires
lay_stretch-requires c = record {
  start_in_bounds = (omega (arith, c.requires.many_in_bounds.0), omega (arith, c.requires.many_in_bounds.1, c.loop-k.invariant.0.long), c.loop-k.invariant.2);
  x_bound = (omega (arith, c.requires.many_bound), omega (arith, c.requires.many_bound), omega (arith, c.requires.many_bound), omega (arith, c.requires.many_bound, c.loop-k.invariant.1.long));
}

pub loop-k-preserved : goal.loop-k-preserved
loop-k-preserved c = let j = 128 * c.loop-k.k in
    let e : j + 128 ≡ 128 * (c.loop-k.k + 1) = omega arith in (
      laid_end _ (j + 128) _ _ _ _ (laid_on _ j 128 _ _ _ (λ n h. fields_on _ 6 4 _ j n) _ _ c.loop-k.invariant.0 c.lay_stretch.ensures.pads) e,
      four_end _ _ _ _ (j + 128) _ _ _ _ _ _ _
          (four_on _ _ _ _ j 128 c.args.many _ _ _ _ _ _ _ _ _ _ _ (omega arith) c.requires.many_bound.0 c.requires.many_bound.1 c.requires.many_bound.2
          c.loop-k.invariant.1 c.lay_stretch.ensures.others
          (λ n h. fields_on _ 1 2 _ j n) (λ n h. fields_on _ 3 1 _ j n) (λ n h. fields_on _ 4 1 _ j n) (λ n h. fields_on _ 5 1 _ j n)) e,
      c.lay_stretch.ensures.kept,
    )

pub returns : goal.returns
returns c = let w = 128 * (c.args.many / 128) in
    let e : 128 * c.loop-k.k ≡ w = omega arith in
    let r = c.args.many - w in
    let z : w + r ≡ c.args.many = omega arith in record {
      pads = laid_end _ (w + r) _ _ _ _ (laid_on _ w r _ _ _ (λ n h. fields_on _ 6 4 _ w n) _ _ (laid_end _ _ w _ _ _ c.loop-k.invariant.0 e) c.lay_each.ensures.pads) z;
      others = four_end _ _ _ _ (w + r) _ _ _ _ _ _ _
          (four_on _ _ _ _ w r c.args.many _ _ _ _ _ _ _ _ _ _ _ (omega arith) c.requires.many_bound.0 c.requires.many_bound.1 c.requires.many_bound.2
          (four_end _ _ _ _ _ w _ _ _ _ _ _ c.loop-k.invariant.1 e) c.lay_each.ensures.others
          (λ n h. fields_on _ 1 2 _ w n) (λ n h. fields_on _ 3 1 _ w n) (λ n h. fields_on _ 4 1 _ w n) (λ n h. fields_on _ 5 1 _ w n)) z;
    }
