-- A block of a standing partial asked for once more: left where it was received, else turned, replaced and turned back. Assumes nothing.
use mathlib.Core.Path.{◌≡◌, refl, sym, ap, ◌∙◌, subst}
use mathlib.Core.Bool.{Bool, true, false}
use mathlib.Core.List.{List}
use mathlib.Core.Option.{some}
use Prim.Native.Nat.{ℕ, suc, ◌+◌, ◌≤◌, ◌<◌}
use native.Mathlib.Omega.{arith}
use Rattle.types.specs.Peer.{named_peer}
use Rattle.model.specs.Lists.{nth}
use Rattle.model.specs.State.{Block, DownloadingPiece}
use Rattle.model.specs.list.Order.{Draws, Drawing, drawing}
use Rattle.model.specs.change.Partials.{block_at}
use Rattle.model.specs.change.Changes.{saying, set_block, make_piece_reverse, unreverse_piece, requested_by, request}
use Rattle.model.specs.change.Changes.{mark_downloading_in}
use Rattle.memory_records.specs.declared.record.DownloadingPiece.{DownloadingPiece as Record}
use Rattle.memory_layout.specs.declared.shape.Shape.{Shape}
use Rattle.memory_layout.specs.Decode.{decode, state_from}
use Rattle.memory_layout.specs.Changes.{partial_in}
use Rattle.memory_blocks.specs.declared.info.BlockInfo.{BlockInfo}
use Rattle.memory_blocks.specs.Blocks.{block_of, BlockRead}
use Rattle.change_steps.specs.Working.{WorksBeside, Went, Goes}
use Rattle.change_steps.proofs.WorkLaws.{went_nowhere, went_named, went_then}
use Rattle.change_state.specs.declared.states.Tally.{Tally}
use Rattle.change_state.specs.Numbers.{IsTally}
use Rattle.change_direction.specs.Turning.{MadeReverse}
use Rattle.change_blocks.specs.Replacing.{with_block_at, Retallied, PartialAt, PartialBeside, TallyAt, TallyBeside, BlockSet}
use Rattle.change_blocks.proofs.StandingLaws.{block_there, block_within}
use Rattle.change_receipts.proofs.BlockLaws.{was_received, not-received}
use Rattle.change_requests.specs.Requesting.{RequestBeside, Requested}
use Rattle.change_requests.proofs.TurnedLaws.{reverse_same, block_few, next_is, partial_same, stands_on}

-- the block of the numbers that are stored
requested_is : (x : BlockInfo) (n : ℕ) → x.state ≡ 1 → x.num_peers ≡ suc n
    → block_of x ≡ requested_by (named_peer x.has_peer x.peer) (suc n)
unfolding block_of requested_by state_from nth
requested_is x n e f = rw (e, f) refl

module _ (s : Shape) (draws : Draws) (i p j : ℕ) (back : Bool) (t : Tally) (words cells : List ℕ) (used : ℕ) (b : BlockInfo)
    (r : BlockRead s words cells p j b) where
  -- its peers
  count_is : (records : List Record) (k : ℕ) → TallyAt s records words cells i p j t k
      → b.num_peers ≡ (block_at (partial_in (decode records words cells) k) j).num_peers
  unfolding block_of
  count_is records k a = ap (λ (y : Block). y.num_peers) (block_there s words cells i p j t b r records k a).is

  -- one peer more can be counted
  pub one_more : RequestBeside s words cells i p j t → b.num_peers + 1 ≤ 65535
  one_more a = omega (arith, a.few, count_is a.beside.records a.beside.k a.beside.there)

  -- ---- received
  pub request_refused : (has : Bool) (peer : ℕ) → 2 ≤ b.state
      → Requested s draws i p j back has peer t words cells used words cells (record { answer = false; used = used })
  unfolding mark_downloading_in saying drawing
  request_refused has peer h = record {
    marks = λ options e. record {
      went = λ records k a.
          let d = partial_in (decode records words cells) k in
          went_nowhere s records words cells used (λ w. (mark_downloading_in draws i (some d) j (named_peer has peer) options w).after)
          a.stands.works (rw (was_received s words cells i p j t b r records k a h) refl);
      answer = λ records k a. rw (was_received s words cells i p j t b r records k a h) refl;
    };
  }

  -- ---- turned
  module _ (words₁ cells₁ : List ℕ) (turned : ℕ) (m : MadeReverse s draws i back t.requested words cells used words₁ cells₁ turned) where
    turned_went : (records : List Record) (k : ℕ) → TallyAt s records words cells i p j t k
        → Went s (make_piece_reverse draws i back (partial_in (decode records words cells) k)) records words cells used
        records words₁ cells₁ turned
    turned_went records k a =
        m.went records a.stands.works (partial_in (decode records words cells) k) a.tally.requested

    turned_stands : (records : List Record) (k : ℕ) → TallyAt s records words cells i p j t k → PartialAt s records words₁ cells₁ i p j k
    unfolding drawing
    turned_stands records k a =
        let d = partial_in (decode records words cells) k in
        stands_on s (make_piece_reverse draws i back d) records words cells used words₁ cells₁ turned (turned_went records k a)
        (reverse_same draws i back d (drawing used (decode records words cells))).partials i p j k a.stands

    turned_few : (records : List Record) (k : ℕ) → TallyAt s records words cells i p j t k → turned ≤ used + 1
    unfolding drawing
    turned_few records k a =
        let d = partial_in (decode records words cells) k in
        let w = drawing used (decode records words cells) in
        let e = next_is s (make_piece_reverse draws i back d) records words cells used words₁ cells₁ turned (turned_went records k a)
        (reverse_same draws i back d w).partials in
        omega (arith, e, (reverse_same draws i back d w).draws)

    pub turned_asks : TallyBeside s words cells i p j t → PartialBeside s words₁ cells₁ i p j × (turned ≤ used + 1)
    turned_asks a = (
      record { records = a.records; k = a.k; stands = turned_stands a.records a.k a.there },
      turned_few a.records a.k a.there,
    )

    -- ---- replaced
    module _ (after : Tally) (y : Retallied t b.state 1 after) (x : BlockInfo) (ex : x.state ≡ 1)
        (en : x.num_peers ≡ b.num_peers + 1) (words₂ cells₂ : List ℕ) (next : ℕ)
        (g : BlockSet s draws i p j x after words₁ cells₁ turned words₂ cells₂ next) where
      set_went : (records : List Record) (k : ℕ) → TallyAt s records words cells i p j t k
          → Went s (set_block draws i (partial_in (decode records words cells) k) j (block_of x)) records words₁ cells₁ turned
          records words₂ cells₂ next
      unfolding block_of state_from nth drawing
      set_went records k a =
          let d = partial_in (decode records words cells) k in
          let same = partial_same s (make_piece_reverse draws i back d) records words cells used words₁ cells₁ turned
          (turned_went records k a) (reverse_same draws i back d (drawing used (decode records words cells))).partials k in
          let c : IsTally after (with_block_at j (block_of x) d) =
          y.is d j (block_of x) a.tally (block_within s words cells i p j t records k a)
          (block_there s words cells i p j t b r records k a).state (rw ex refl) in
          subst (λ (q : DownloadingPiece). Went s (set_block draws i q j (block_of x)) records words₁ cells₁ turned
          records words₂ cells₂ next) same
          (g.went records k (turned_stands records k a)
          (subst (λ (q : DownloadingPiece). IsTally after (with_block_at j (block_of x) q)) (sym same) c))

      pub set_asks : TallyBeside s words cells i p j t → WorksBeside s words₂ cells₂ × (next ≤ used + 2)
      unfolding drawing
      set_asks a =
          let d = partial_in (decode a.records words cells) a.k in
          let w = set_went a.records a.k a.there in
          let e : next ≡ (set_block draws i d j (block_of x) (drawing turned (decode a.records words₁ cells₁))).used =
          ap (λ (v : Drawing). v.used) w.is in (
            record { records = a.records; works = w.works },
            omega (
              arith,
              e,
              block_few draws i d j (block_of x) (drawing turned (decode a.records words₁ cells₁)),
              turned_few a.records a.k a.there,
            ),
          )

      -- ---- turned back
      pub request_made : b.state < 2 → (words₃ cells₃ : List ℕ) (last : ℕ)
          → Goes s (unreverse_piece draws i back) words₂ cells₂ next words₃ cells₃ last
          → Requested s draws i p j back x.has_peer x.peer t words cells used words₃ cells₃ (record { answer = true; used = last })
      unfolding mark_downloading_in saying drawing request
      request_made h words₃ cells₃ last u = record {
        marks = λ options e. record {
          went = λ records k a.
              let d = partial_in (decode records words cells) k in
              let w = set_went records k a in
              went_named s records words cells used records words₃ cells₃ last
              (λ v. unreverse_piece draws i back (set_block draws i d j (block_of x) (make_piece_reverse draws i back d v)))
              (λ v. (mark_downloading_in draws i (some d) j (named_peer x.has_peer x.peer) options v).after)
              (rw (not-received s words cells i p j t b r records k a h, ← e)
              (ap (λ (q : Block). unreverse_piece draws i back (set_block draws i d j q (make_piece_reverse draws i back d
              (drawing used (decode records words cells)))))
              (requested_is x (block_at d j).num_peers ex (en ∙ peers b.num_peers (block_at d j).num_peers (count_is records k a)))))
              (went_then s records words cells used records words₂ cells₂ next
              (λ v. set_block draws i d j (block_of x) (make_piece_reverse draws i back d v)) (unreverse_piece draws i back)
              (went_then s records words cells used records words₁ cells₁ turned (make_piece_reverse draws i back d)
              (set_block draws i d j (block_of x)) (turned_went records k a) records words₂ cells₂ next w)
              records words₃ cells₃ last (u.went records w.works));
          answer = λ records k a. rw (not-received s words cells i p j t b r records k a h) refl;
        };
      }
        where
          peers : (m n : ℕ) → m ≡ n → m + 1 ≡ suc n
          peers m n e = omega (arith, e)
