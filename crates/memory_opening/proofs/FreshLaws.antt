-- The blocks of a place filled one after another with fresh ones, beside any words. Assumes nothing.
use mathlib.Core.Path.{◌≡◌, refl, sym, ap, subst, ◌∙◌}
use mathlib.Core.Option.{none}
use mathlib.Core.List.{List}
use Prim.Native.Nat.{ℕ, ◌+◌, ◌<◌}
use native.Mathlib.Decide.{ℕ_discrete}
use native.Mathlib.Omega.{arith}
use Rattle.types.specs.declared.block.BlockState.{BlockState}
use Rattle.model.specs.State.{Block}
use Rattle.model.specs.change.Partials.{fresh_block}
use Rattle.memory_layout.specs.declared.shape.Shape.{Shape}
use Rattle.memory_layout.specs.Offsets.{places_for}
use Rattle.memory_layout.specs.Decode.{block_cell, state_from, block_held}
use Rattle.memory_layout.specs.Bounds.{CellsSpan, PlainBlock}
use Rattle.memory_layout.proofs.Parts.{block_same}
use Rattle.memory_layout.proofs.BoundsLaws.{cells_kept_none, cells_kept_again}
use Rattle.memory_blocks.specs.Blocks.{BlockFresh}
use Rattle.memory_opening.specs.Opening.{Fresh}

pub fresh_start : (s : Shape) (cells : List ℕ) (p payload : ℕ) → Fresh s cells cells p 0 payload
fresh_start s cells p payload = record {
  kept = cells_kept_none s cells;
  fields = λ f i h l. refl;
  held = λ words j h. absurd (omega arith);
  plain = λ j h. absurd (omega arith);
  others = λ f q j h l n. refl;
}

-- the cells are as long as before
pub fresh_span : (s : Shape) (cells cells' : List ℕ) (p many payload : ℕ) → CellsSpan s cells → Fresh s cells cells' p many payload
    → CellsSpan s cells'
fresh_span s cells cells' p many payload r c = record { sizes = r.sizes; long = omega (arith, r.long, c.kept.long) }

-- one block more
module _ (s : Shape) (a b c : List ℕ) (p j payload state : ℕ) (hp : p < places_for s.pieces) (hj : j < s.blocks)
    (x : Fresh s a b p j payload) (y : BlockFresh s b c p j state) (e : state_from state ≡ (fresh_block payload j).state) where
  cell_stays : (f i : ℕ) → i < j → block_cell c s.pieces s.blocks f p i ≡ block_cell b s.pieces s.blocks f p i
  cell_stays f i l = (y.put b).other_cells f p i hp (omega arith) (λ q z. omega arith)

  state_is : (words : List ℕ) → block_held words c s.pieces s.blocks p j ≡ fresh_block payload j
  unfolding fresh_block
  state_is words = y.held words ∙ ap (λ (q : BlockState). fresh q) e
    where
      fresh : BlockState → Block
      fresh q = record { state = q; num_peers = 0; peer = none }

  held : (words : List ℕ) (i : ℕ) → i < j + 1 → block_held words c s.pieces s.blocks p i ≡ fresh_block payload i
  held words i h = elim (ℕ_discrete i j) [
    | yes q ↦ subst (λ (k : ℕ). block_held words c s.pieces s.blocks p k ≡ fresh_block payload k) (sym q) (state_is words)
    | no n ↦ (
        block_same words words b c s.pieces s.blocks p i (λ f l. cell_stays f i (omega arith)) (λ z. refl)
        ∙ x.held words i (omega arith)
        )
  ]

  plain : (i : ℕ) → i < j + 1 → PlainBlock s.pieces s.blocks c p i
  plain i h = elim (ℕ_discrete i j) [
    | yes q ↦ rw q y.plain
    | no n ↦ record {
      state = rw (cell_stays 0 i (omega arith)) (x.plain i (omega arith)).state;
      has = rw (cell_stays 2 i (omega arith)) (x.plain i (omega arith)).has;
    }
  ]

  pub fresh_next : Fresh s a c p (j + 1) payload
  fresh_next = record {
    kept = cells_kept_again s a b c x.kept (y.put b).cells_kept;
    fields = λ f i h l. (y.put b).fields f i h l ∙ x.fields f i h l;
    held = held;
    plain = plain;
    others = λ f q i h l n. (y.put b).other_cells f q i h l (λ u v. n u) ∙ x.others f q i h l n;
  }

pub fresh_end : (s : Shape) (a b : List ℕ) (p j many payload : ℕ) → Fresh s a b p j payload → j ≡ many → Fresh s a b p many payload
fresh_end s a b p j many payload x e = subst (λ (n : ℕ). Fresh s a b p n payload) e x
