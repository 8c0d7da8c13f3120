-- The parts of an image one after another. Assumes nothing.
use Rattle.std.specs.Prelude.{Err, Ok, Result}
use mathlib.Core.Path.{◌≡◌, sym, ap, ap₂, ◌∙◌, subst}
use mathlib.Core.List.{List, []}
use Prim.Native.Nat.{ℕ, ◌≤◌}
use native.Mathlib.Omega.{arith}
use lib.ListN.{length, drop}
use Rattle.model.specs.Bep3.{num_pieces, whole_piece_blocks}
use Rattle.model.specs.State.{Piece, DownloadingPiece, Picker, max_extents, no_piece, with_pieces, with_partials}
use Rattle.model.specs.State.{with_recent_extents}
use Rattle.model.specs.State.{with_listing, piece_at, pieces_in, blocks_per_piece, num_extents}
use Rattle.model.specs.list.Order.{bucket, rank_of, rank}
use Rattle.model.specs.image.Image.{head_kind, Got, fault, ret, next, judged, read_head, get_pieces, get_partials, get_extents, get_listing}
use Rattle.model.specs.image.Image.{get_picker}
use Rattle.memory_layout.proofs.TableLaws.{tabulate-len, tabulate-nth}
use Rattle.image_pieces.specs.declared.head.Head.{Head}
use Rattle.image_pieces.specs.Places.{Ended, Went}
use Rattle.image_pieces.specs.Heads.{head_picker}
use Rattle.image_pieces.specs.Pieces.{piece_place, piece_in, first_pieces, PiecesStand, PiecesRead}
use Rattle.image_pieces.proofs.NextLaws.{next-got, next-fault}
use Rattle.image_pieces.proofs.HeadLaws.{HeadGot}
use Rattle.image_partials.specs.Partials.{StatesStand, PartialsRead}
use Rattle.image_tail.specs.Extents.{ExtentsJudged}
use Rattle.image_tail.specs.Order.{RanksOf, ListingJudged}
use Rattle.image_tail.proofs.OrderLaws.{went_on}
use Rattle.image_judge.specs.Fronts.{get_tail, get_body, body_picker, TailRead, BodyRead}

-- ---- the picker of the pieces that were read
pub states_stand : (head : Head) (n : ℕ) (bytes ranks : List ℕ) → PiecesStand head n bytes ranks → StatesStand n bytes
states_stand head n bytes ranks p = record { room = p.room; state = λ k l. (p.ranked k l).state }

module _ (head : Head) (n : ℕ) (bytes : List ℕ) (ds : List DownloadingPiece) where
  pieces_are : pieces_in (body_picker head n bytes ds) ≡ n
  unfolding pieces_in body_picker with_partials with_pieces first_pieces
  pieces_are = tabulate-len n (piece_in bytes)

  ranks_of : (ranks : List ℕ) → PiecesStand head n bytes ranks → RanksOf n ranks (body_picker head n bytes ds)
  unfolding rank piece_at body_picker with_partials with_pieces head_picker first_pieces
  ranks_of ranks p = record {
    pieces = pieces_are;
    each = λ i l.
        (p.ranked i l).rank ∙ ap (λ (x : Piece). rank_of (bucket head.seeds x)) (sym (tabulate-nth n (piece_in bytes) i no_piece l));
  }

  limit_is : (limit many blocks : ℕ) → limit ≡ num_extents many blocks → many ≡ n → blocks ≡ whole_piece_blocks head.size
      → num_extents (pieces_in (body_picker head n bytes ds)) (blocks_per_piece (body_picker head n bytes ds)) ≡ limit
  unfolding blocks_per_piece body_picker with_partials with_pieces head_picker
  limit_is limit many blocks el em eb = ap₂ num_extents (pieces_are ∙ sym em) (sym eb) ∙ sym el

-- ---- extents and list
module _ (at : ℕ) (head : Head) (n : ℕ) (bytes : List ℕ) (limit many blocks : ℕ) (el : limit ≡ num_extents many blocks) (em : many ≡ n)
    (eb : blocks ≡ whole_piece_blocks head.size) (read : Result ℕ ℕ) (h : ExtentsJudged at limit bytes read) where
  pub extents_fail : (k : ℕ) → read ≡ Err k → TailRead at head n bytes (Err k)
  unfolding Went get_tail
  extents_fail k e ds =
      let s = body_picker head n bytes ds in
      let w = subst (Went (get_extents s max_extents [] (drop at bytes)) bytes) e
      (h s (limit_is head n bytes ds limit many blocks el em eb)) in
      record {
        is =
            next-fault (get_extents s max_extents [] (drop at bytes))
            (λ es. λ l. next (get_listing s (head_picker head).listing l) (λ x. ret (with_listing x (with_recent_extents es s))))
            (drop k bytes) w.is;
        within = w.within;
      }

  module _ (ranks : List ℕ) (p : PiecesStand head n bytes ranks) (k : ℕ) (e : read ≡ Ok k) where
    extents_end : (ds : List DownloadingPiece) → Ended (get_extents (body_picker head n bytes ds) max_extents [] (drop at bytes)) bytes k
    unfolding Went
    extents_end ds =
        subst (Went (get_extents (body_picker head n bytes ds) max_extents [] (drop at bytes)) bytes) e
        (h (body_picker head n bytes ds) (limit_is head n bytes ds limit many blocks el em eb))

    pub extents_within : k ≤ length bytes
    extents_within = (extents_end []).within

    pub tail_read : (to : Result ℕ ℕ) → ListingJudged k head.dirty n ranks bytes to → TailRead at head n bytes to
    unfolding get_tail head_picker
    tail_read to l ds =
        let s = body_picker head n bytes ds in
        let w = extents_end ds in
        subst (λ (g : Got Picker). Went g bytes to)
        (sym (next-got (get_extents s max_extents [] (drop at bytes))
        (λ es. λ m. next (get_listing s (head_picker head).listing m) (λ x. ret (with_listing x (with_recent_extents es s)))) w.value
        (drop k bytes) w.is))
        (went_on bytes (get_listing s (head_picker head).listing (drop k bytes)) (λ x. with_listing x (with_recent_extents w.value s)) to
        (l s (ranks_of head n bytes ds ranks p)))

-- ---- all behind the pieces
module _ (head : Head) (n : ℕ) (bytes : List ℕ) (read : Result ℕ ℕ) (h : PartialsRead head n bytes read) where
  pub partials_fail : (k : ℕ) → read ≡ Err k → BodyRead head n bytes (Err k)
  unfolding Went get_body
  partials_fail k e =
      let w = subst (Went (get_partials (head_picker head) 0 0 (first_pieces bytes n) (drop (piece_place n) bytes)) bytes) e h in
      record {
        is =
            next-fault (get_partials (head_picker head) 0 0 (first_pieces bytes n) (drop (piece_place n) bytes))
            (λ ds. get_tail (with_partials ds (with_pieces (first_pieces bytes n) (head_picker head))) (head_picker head).listing)
            (drop k bytes) w.is;
        within = w.within;
      }

  module _ (k : ℕ) (e : read ≡ Ok k) where
    partials_end : Ended (get_partials (head_picker head) 0 0 (first_pieces bytes n) (drop (piece_place n) bytes)) bytes k
    unfolding Went
    partials_end = subst (Went (get_partials (head_picker head) 0 0 (first_pieces bytes n) (drop (piece_place n) bytes)) bytes) e h

    pub partials_within : k ≤ length bytes
    partials_within = partials_end.within

    pub body_read : (to : Result ℕ ℕ) → TailRead k head n bytes to → BodyRead head n bytes to
    unfolding get_body body_picker
    body_read to t =
        let w = partials_end in
        subst (λ (g : Got Picker). Went g bytes to)
        (sym (next-got (get_partials (head_picker head) 0 0 (first_pieces bytes n) (drop (piece_place n) bytes))
        (λ ds. get_tail (with_partials ds (with_pieces (first_pieces bytes n) (head_picker head))) (head_picker head).listing) w.value
        (drop k bytes) w.is))
        (t w.value)

-- ---- the whole
pub head_fails : (bytes : List ℕ) → judged head_kind read_head bytes ≡ fault (drop 0 bytes) → Went (get_picker bytes) bytes (Err 0)
unfolding Went get_picker get_body get_tail
head_fails bytes e = record {
  is =
      next-fault (judged head_kind read_head bytes)
      (λ h. λ l. next (get_pieces h 0 (num_pieces h.total_size h.piece_size) l) (λ ps. get_body h ps)) (drop 0 bytes) e;
  within = omega arith;
}

module _ (bytes : List ℕ) (head : Head) (g : HeadGot bytes head) (n : ℕ) (en : n ≡ num_pieces head.total head.size) where
  pieces_next : get_picker bytes ≡ next (get_pieces (head_picker head) 0 n (drop 24 bytes)) (λ ps. get_body (head_picker head) ps)
  unfolding get_picker get_body get_tail head_picker
  pieces_next =
      next-got (judged head_kind read_head bytes)
      (λ h. λ l. next (get_pieces h 0 (num_pieces h.total_size h.piece_size) l) (λ ps. get_body h ps)) (head_picker head) (drop 24 bytes)
      g.is
      ∙ ap (λ (m : ℕ). next (get_pieces (head_picker head) 0 m (drop 24 bytes)) (λ ps. get_body (head_picker head) ps)) (sym en)

  module _ (ranks : List ℕ) (read : Result ℕ ℕ) (h : PiecesRead head n bytes ranks read) where
    pub pieces_fail : (k : ℕ) → read ≡ Err k → Went (get_picker bytes) bytes (Err k)
    unfolding Went PiecesRead
    pieces_fail k e =
        let w = subst (PiecesRead head n bytes ranks) e h in
        record {
          is = pieces_next ∙ next-fault (get_pieces (head_picker head) 0 n (drop 24 bytes)) (λ ps. get_body (head_picker head) ps)
              (drop k bytes) w.is;
          within = w.within;
        }

    pub pieces_stand : (k : ℕ) → read ≡ Ok k → PiecesStand head n bytes ranks
    unfolding PiecesRead
    pieces_stand k e = (subst (PiecesRead head n bytes ranks) e h).1

    pub front_read : (k : ℕ) → read ≡ Ok k → (to : Result ℕ ℕ) → BodyRead head n bytes to → Went (get_picker bytes) bytes to
    front_read k e to b =
        let p = pieces_stand k e in
        subst (λ (x : Got Picker). Went x bytes to)
        (sym (pieces_next
        ∙ next-got (get_pieces (head_picker head) 0 n (drop 24 bytes)) (λ ps. get_body (head_picker head) ps) (first_pieces bytes n)
        (drop (piece_place n) bytes) p.is))
        b
