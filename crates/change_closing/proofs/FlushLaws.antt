-- A piece on disk: its partial goes, and no rank changes, since it has no bucket before or after. Assumes nothing.
use mathlib.Core.Path.{◌≡◌, refl, sym, ap, ◌∙◌, subst}
use mathlib.Core.Bool.{◌&&◌}
use mathlib.Core.List.{List}
use Prim.Native.Nat.{ℕ, suc, ◌<◌}
use native.Mathlib.Decide.{ℕ_discrete}
use lib.Dec.{eqb}
use Rattle.model.specs.State.{Picker, with_piece, with_pieces, with_flushed, with_cursors, piece_at, pieces_in}
use Rattle.model.specs.list.Order.{no_draw, drawing, rank}
use Rattle.model.specs.list.Listed.{ListingOk}
use Rattle.model.specs.change.Partials.{drop_partial, erase_download_piece}
use Rattle.model.specs.change.Changes.{empty_range, cursor_from, reverse_from, advance_cursors, piece_flushed}
use Rattle.model.proofs.base.Phases.{cond_arms}
use Rattle.model.proofs.keep.KeepClose.{erase_download_piece_alone, flushed_rank}
use Rattle.model.proofs.list.ListingLaws.{ok_same}
use Rattle.model.proofs.list.RankLaws.{rank_same, rank_other, rank_changed, pieces_in-with_piece}
use Rattle.memory_layout.specs.declared.shape.Shape.{Shape}
use Rattle.memory_layout.specs.Decode.{decode}
use Rattle.memory_layout.specs.Stores.{CellsBecame}
use Rattle.memory_layout.proofs.Meanings.{pieces_number}
use Rattle.memory_layout.proofs.BoundsLaws.{words_kept_again, cells_kept_again}
use Rattle.memory_layout.proofs.StandingLaws.{ranks_named}
use Rattle.memory_layout.proofs.stores.ListFrames.{ranks_kept, list_kept_again}
use Rattle.memory_fields.specs.Storing.{StoredBeside}
use Rattle.memory_list.proofs.Moving.{InRange, range_piece, range_flushed, ranges_held, ranks_right}
use Rattle.change_steps.proofs.FieldLaws.{cells_range}
use Rattle.change_closing.specs.Closing.{without, Erased, Flushed}

-- ---- in the picker
-- a picker with the same pieces, seeds, partials and list
record SameButCursors (d d' : Picker) : Type 0 where
  seeds : d'.seeds ≡ d.seeds
  pieces : d'.pieces ≡ d.pieces
  partials : d'.partials ≡ d.partials
  listing : d'.listing ≡ d.listing

with_cursors_lem : (c r : ℕ) (d : Picker) → SameButCursors d (with_cursors c r d)
unfolding with_cursors
with_cursors_lem c r d = record { seeds = refl; pieces = refl; partials = refl; listing = refl }

advance_same : (i : ℕ) (d : Picker) → SameButCursors d (advance_cursors i d)
unfolding advance_cursors empty_range
advance_same i d =
    let front = eqb d.cursor i in
    let back = eqb d.reverse_cursor (suc i) in
    cond_arms (SameButCursors d) (front && back) (with_cursors (pieces_in d) 0 d) _
    (λ e. with_cursors_lem (pieces_in d) 0 d)
    (λ e. cond_arms (SameButCursors d) front (with_cursors (cursor_from d (suc i)) d.reverse_cursor d) _
    (λ f. with_cursors_lem (cursor_from d (suc i)) d.reverse_cursor d)
    (λ f. cond_arms (SameButCursors d) back (with_cursors d.cursor (reverse_from d i) d) d
    (λ g. with_cursors_lem d.cursor (reverse_from d i) d)
    (λ g. record { seeds = refl; pieces = refl; partials = refl; listing = refl })))

module _ (i : ℕ) (d : Picker) where
  u : Picker
  u = with_piece i with_flushed (erase_download_piece i d)

  pub flushed_listing : (piece_flushed i d).listing ≡ d.listing
  unfolding piece_flushed u with_piece with_pieces
  flushed_listing = (advance_same i u).listing ∙ (erase_download_piece_alone i d).listing

  pub flushed_partials : (piece_flushed i d).partials ≡ (drop_partial i d).partials
  unfolding piece_flushed u erase_download_piece with_piece with_pieces
  flushed_partials = (advance_same i u).partials

  same_many : (e e' : Picker) → e'.pieces ≡ e.pieces → pieces_in e' ≡ pieces_in e
  unfolding pieces_in
  same_many e e' q = rw q

  pub flushed_many : pieces_in (piece_flushed i d) ≡ pieces_in d
  unfolding piece_flushed u
  flushed_many =
      same_many u (advance_cursors i u) (advance_same i u).pieces ∙ pieces_in-with_piece i with_flushed (erase_download_piece i d)
      ∙ (erase_download_piece_alone i d).many

  pub flushed_ranks : i < pieces_in d → rank d i ≡ 0 → (k : ℕ) → rank (piece_flushed i d) k ≡ rank d k
  unfolding piece_flushed u with_flushed
  flushed_ranks h z k =
      let a = erase_download_piece_alone i d in
      let e = erase_download_piece i d in
      rank_same u (advance_cursors i u) (advance_same i u).seeds (advance_same i u).pieces k
      ∙ elim (ℕ_discrete k i) [
        | yes q ↦ rw q (rank_changed i with_flushed e (rw a.many h) ∙ flushed_rank e.seeds (with_flushed (piece_at e i)) refl ∙ sym z)
        | no n ↦ rank_other i with_flushed e k n ∙ a.ranks k n
      ]

-- ---- in the buffers
module _ (s : Shape) (i : ℕ) (h : i < s.pieces) (words cells words₁ cells₁ words' cells' : List ℕ)
    (x : Erased s i words cells words₁ cells₁) (c : CellsBecame s (with_piece i with_flushed) cells₁ cells')
    (v : StoredBeside s (advance_cursors i) cells' words₁ words') where
  pub flushed : Flushed s i words cells words' cells'
  unfolding piece_flushed no_draw drawing
  flushed = record {
    went = λ records p z used.
        let d = decode records words cells in
        let w = p.works in
        let after = without i words records in
        let there : i < pieces_in d = rw (pieces_number s records words cells w.bounds) h in
        let t = x.stored records p in
        let b = c.became after words₁ t.bounds in
        let a = v.became.became after b.bounds in
        let g = cells_range s after words₁ cells₁ t.bounds t.ranges in
        let m : i < pieces_in (decode after words₁ cells₁) = rw (pieces_number s after words₁ cells₁ t.bounds) h in
        let is : decode after words' cells' ≡ piece_flushed i d =
        a.is ∙ ap (advance_cursors i) (b.is ∙ ap (with_piece i with_flushed) t.is) in
        let list = list_kept_again s words words₁ words' t.list v.list in
        let ranks = flushed_ranks i d there z in
        record {
          is = ap (drawing used) is;
          works = record {
            bounds = a.bounds;
            plain = a.plain (b.plain t.plain);
            ranges = ranges_held s after words₁ cells' b.bounds
                (subst InRange (sym b.is) (range_piece i with_flushed (decode after words₁ cells₁) g (range_flushed _ (g i m))));
            ranks = ranks_right s after words' cells'
                (ranks_named s.pieces words' (rank d) (rank (decode after words' cells'))
                (λ k. ap (λ (y : Picker). rank y k) is ∙ ranks k)
                (ranks_kept s words words' (rank d) list w.bounds.list (w.ranks records)));
            listed = subst ListingOk (sym is)
                (ok_same d (piece_flushed i d) (flushed_listing i d) (flushed_many i d) (λ k l. ranks k) w.listed);
          };
          words_kept = words_kept_again s words words₁ words' t.words_kept v.became.words_kept;
          cells_kept = cells_kept_again s cells cells₁ cells' t.cells_kept c.kept;
        };
  }
