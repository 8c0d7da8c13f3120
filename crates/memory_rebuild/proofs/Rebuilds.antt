-- The list rebuilt in its places, by the ranks of all pieces, is the picker's list rebuilt. Assumes nothing.
use mathlib.Core.Path.{◌≡◌, refl, sym, ap, ap₂, ◌∙◌, fun_ext, subst}
use mathlib.Core.Bool.{true, false, true≢false}
use mathlib.Core.List.{List}
use Prim.Native.Nat.{ℕ, ◌+◌, ◌≤◌, ◌<◌}
use native.Mathlib.Omega.{arith}
use native.Mathlib.Decide.{dec_lt}
use lib.ListN.{length, get_or, take, drop, set, replicate, get_or-replicate, length-append, length-replicate, get_or-eq_default}
use lib.Seq.{take_at}
use Rattle.model.specs.Lists.{nth, len}
use Rattle.model.specs.State.{Picker, Listing, dirty, fresh, is_dirty, pieces_in, with_listing}
use Rattle.model.specs.list.Order.{rank, rebuilt, rebuild_draws, drawing, update_pieces, update_pieces_in}
use Rattle.model.proofs.list.ListedLaws.{listed_at_lt}
use Rattle.model.proofs.list.RankLaws.{rank_beyond}
use Rattle.model.proofs.list.ListedRebuild.{rebuilt_listed}
use Rattle.memory_records.specs.declared.record.DownloadingPiece.{DownloadingPiece as Record}
use Rattle.memory_layout.specs.declared.shape.Shape.{Shape}
use Rattle.memory_layout.specs.Offsets.{piece_word_at}
use Rattle.memory_layout.specs.Decode.{head_word, yes?, decode}
use Rattle.memory_layout.specs.Bounds.{Sizes}
use Rattle.list_entries.specs.Words.{pieces_of, words_of, RanksIn}
use Rattle.list_words.proofs.Writing.{words_pieces, words_ranks, length_words}
use Rattle.list_sort.specs.Sorting.{rank_in, Ranked}
use Rattle.list_rebuild.specs.Rebuilding.{rebuilt_below, draws_below, IsRebuilt}
use Rattle.list_rebuild.proofs.Building.{rebuilt_is, rebuild_draws_is}
use Rattle.memory_ranks.specs.CellRanks.{RanksFilled}
use Rattle.memory_list.specs.Listings.{ListBounds, RanksRight, ListBecame}
use Rattle.memory_list.proofs.Regions.{lent_at, back_at, part_long, part_stored, flag_is, pieces_many, list_stored, list_left}

-- ---- the model
-- a dirty list rebuilt
rebuild_dirty : (draws : List ℕ) (used : ℕ) (d : Picker) → is_dirty d.listing ≡ true → update_pieces draws (drawing used d)
    ≡ drawing (used + rebuild_draws d) (with_listing (fresh (rebuilt draws used d)) d)
unfolding update_pieces update_pieces_in drawing is_dirty
rebuild_dirty draws used d e = go d.listing e
  where
    go : (k : Listing) → is_dirty k ≡ true → update_pieces_in k draws (drawing used d)
        ≡ drawing (used + rebuild_draws d) (with_listing (fresh (rebuilt draws used d)) d)
    go dirty e = refl
    go (fresh l) e = absurd (true≢false (sym e))

-- a fresh one left
rebuild_clean : (draws : List ℕ) (used : ℕ) (d : Picker) → is_dirty d.listing ≡ false
    → update_pieces draws (drawing used d) ≡ drawing used d
unfolding update_pieces update_pieces_in drawing is_dirty
rebuild_clean draws used d e = go d.listing e
  where
    go : (k : Listing) → is_dirty k ≡ false → update_pieces_in k draws (drawing used d) ≡ drawing used d
    go dirty e = absurd (true≢false e)
    go (fresh l) e = refl

-- ---- the ranks
zeros : (n i : ℕ) → get_or (replicate {A = ℕ} n 0) i 0 ≡ 0
zeros n i = elim (dec_lt i n) [
  | yes h ↦ get_or-replicate n i 0 0 h
  | no h ↦ get_or-eq_default (replicate n 0) 0 (rw (length-replicate {A = ℕ} n 0) (omega arith))
]

-- there is a place for each piece
pub ranks_room : (s : Shape) → Sizes s → s.pieces ≤ length (replicate {A = ℕ} 4096 0)
ranks_room s z = rw (length-replicate {A = ℕ} 4096 0) z.many

module _ (s : Shape) (words cells : List ℕ) (q : ListBounds s words cells) (size : ℕ) (ranks : List ℕ)
    (k : RanksFilled s words cells s.pieces (replicate size 0) ranks) where
  -- they have a place in the table
  pub ranks_low : Ranked s.pieces ranks
  ranks_low i h = omega (arith, (k.ranks i h).low)

  -- as many as were lent
  pub ranks_long : length ranks ≡ size
  ranks_long = k.long ∙ length-replicate {A = ℕ} size 0

  module _ (records : List Record) where
    abbrev d : Picker
    d = decode records words cells

    many : pieces_in d ≡ s.pieces
    many = pieces_many s records words cells q.pieces

    -- those of the picker, with 0 behind its pieces
    ranks_are : rank_in ranks ≡ rank d
    unfolding rank_in nth
    ranks_are = fun_ext (λ i. elim (dec_lt i s.pieces) [
      | yes h ↦ (k.ranks i h).is q.pieces records
      | no h ↦ k.rest i (omega arith) ∙ zeros size i ∙ sym (rank_beyond d i (omega (arith, many)))
    ])

    list_is : (draws : List ℕ) (used : ℕ) → rebuilt_below (rank_in ranks) s.pieces draws used ≡ rebuilt draws used d
    list_is draws used =
        ap₂ (λ (r : ℕ → ℕ) (n : ℕ). rebuilt_below r n draws used) ranks_are (sym many) ∙ sym (rebuilt_is draws used d)

    draws_are : draws_below (rank_in ranks) s.pieces ≡ rebuild_draws d
    draws_are = ap₂ draws_below ranks_are (sym many) ∙ sym (rebuild_draws_is d)

    list_small : (draws : List ℕ) (used k : ℕ) → k < length (rebuilt draws used d) → get_or (rebuilt draws used d) k 0 < 65536
    unfolding nth
    list_small draws used k h =
        omega (
          arith,
          many,
          q.spans.in_words.sizes.many,
          listed_at_lt (rank d) (pieces_in d) (rebuilt draws used d) (rebuilt_listed d draws used) k h,
        )

  -- ---- the list
  module _ (dirt : yes? (head_word words 5) ≡ true) (a : ℕ) (ea : a ≡ piece_word_at s.pieces 1 0) (draws : List ℕ) (used : ℕ)
      (part : List ℕ) (m next : ℕ) (long : length part ≡ length (lent_at a s.pieces words))
      (b : IsRebuilt (rank_in ranks) s.pieces draws used (lent_at a s.pieces words) part m next) where
    abbrev list : List ℕ
    list = words_of (rank_in ranks) (rebuilt_below (rank_in ranks) s.pieces draws used)

    list_long : length list ≡ m
    unfolding len
    list_long = length_words (rank_in ranks) (rebuilt_below (rank_in ranks) s.pieces draws used) ∙ sym b.len_is

    front_is : take m part ≡ list
    front_is = ap (take m) b.list ∙ take_at list (drop m (lent_at a s.pieces words)) m list_long

    few : m ≤ s.pieces
    few =
        omega (
          arith,
          long,
          part_long s words q.spans.in_words a ea,
          ap length b.list,
          length-append list (drop m (lent_at a s.pieces words)),
          list_long,
        )

    module _ (records : List Record) where
      words_are : take m part ≡ words_of (rank (d records)) (rebuilt draws used (d records))
      words_are = front_is ∙ ap₂ words_of (ranks_are records) (list_is records draws used)

      pieces_are : pieces_of (take m part) ≡ rebuilt draws used (d records)
      pieces_are =
          ap pieces_of words_are ∙ words_pieces (rank (d records)) (rebuilt draws used (d records)) (list_small records draws used)

      ranks_in : RanksIn (rank (d records)) (take m part)
      ranks_in =
          subst (RanksIn (rank (d records))) (sym words_are)
          (words_ranks (rank (d records)) (rebuilt draws used (d records)) (list_small records draws used))

      step_is : update_pieces draws (drawing used (d records)) ≡ drawing next (with_listing (fresh (pieces_of (take m part))) (d records))
      step_is =
          rebuild_dirty draws used (d records) (flag_is records words cells ∙ dirt)
          ∙ ap₂ (λ (u : ℕ) (l : List ℕ). drawing u (with_listing (fresh l) (d records)))
          (sym (b.used_is ∙ ap (λ (x : ℕ). used + x) (draws_are records))) (sym pieces_are)

    -- with its length stored it is the picker's list
    pub list_rebuilt : (words' : List ℕ) → words' ≡ set (set (back_at a s.pieces words part) 6 m) 5 0
        → ListBecame s (update_pieces draws) words words' cells used next
    list_rebuilt words' e =
        list_stored s (update_pieces draws) words cells used words' part m next
        (part_stored s words q.spans.in_words a ea part long m few words' e) q.pieces step_is ranks_in

-- ---- a list that is not dirty
pub list_fresh : (s : Shape) (words cells draws : List ℕ) (used : ℕ) → RanksRight s words cells → yes? (head_word words 5) ≡ false
    → ListBecame s (update_pieces draws) words words cells used used
list_fresh s words cells draws used r e =
    list_left s (update_pieces draws) words cells used
    (λ records. rebuild_clean draws used (decode records words cells) (flag_is records words cells ∙ e)) r
