-- The records of plain numbers are those of the picker that the buffers mean, and how long each is. Assumes nothing.
use mathlib.Core.Path.{◌≡◌, refl, sym, ap, ap₂, ◌∙◌}
use mathlib.Core.List.{List, ◌∷◌, ◌++◌, append_assoc}
use mathlib.Core.Option.{Option, none, some}
use Prim.Native.Nat.{ℕ, zero, suc, ◌+◌, ◌*◌, ◌≤◌, ◌<◌}
use native.Mathlib.Omega.{arith}
use lib.ListN.{length}
use Rattle.types.specs.Queue.{queue_number}
use Rattle.types.specs.Block.{block_state_number}
use Rattle.model.specs.Lists.{bit, concat_map}
use Rattle.model.specs.Bep3.{bit_of}
use Rattle.model.specs.State.{Piece, Block}
use Rattle.model.specs.image.Image.{partial_kind, bytes_of, piece_record, peer_bytes, block_record, flags_of, partial_records, number_record}
use Rattle.memory_records.specs.declared.record.DownloadingPiece.{DownloadingPiece as Record}
use Rattle.memory_layout.specs.Tables.{tabulate}
use Rattle.memory_layout.specs.Decode.{head_word, piece_word, peer_word, piece_cell, block_cell, blocks_of, queue_from, state_from, yes?}
use Rattle.memory_layout.specs.Decode.{peer_from, piece_held, block_from, block_held, blocks_held, partial_from, partial_held}
use Rattle.memory_layout.specs.Bounds.{PlainPieces, PlainBlock}
use Rattle.memory_layout.proofs.Numbers.{queue_number_lem, state_number}
use Rattle.image_bytes.specs.Put.{Put}
use Rattle.image_bytes.proofs.PutLaws.{put_as}
use Rattle.image_put.specs.Fields.{head_fields, piece_fields, partial_fields, block_fields}
use Rattle.image_parts.specs.Parts.{Appended, head_in, peer_written}
use Rattle.image_parts.proofs.RunLaws.{appended_then, appended_as, run_long}

-- ---- lengths
pub piece_long : (p : Piece) → length (piece_record p) ≡ 10
unfolding piece_record bytes_of
piece_long p = refl

peer_long : (peer : Option ℕ) → length (peer_bytes peer) ≡ 9
unfolding peer_bytes bytes_of
peer_long none = refl
peer_long (some n) = refl

pub block_long : (b : Block) → length (block_record b) ≡ 13
unfolding block_record bytes_of
block_long b = omega (arith, peer_long b.peer)

pub number_long : (kind n : ℕ) → length (number_record kind n) ≡ 5
unfolding number_record bytes_of
number_long kind n = refl

-- ---- numbers
pub bit_yes : (v : ℕ) → v ≤ 1 → bit (yes? v) ≡ v
unfolding yes?
bit_yes zero h = refl
bit_yes (suc zero) h = refl
bit_yes (suc (suc v)) h = absurd (omega arith)

flags_back : (i f : ℕ) (bs : List Block) → f ≤ 7 → flags_of (partial_from i f bs) ≡ f
unfolding flags_of partial_from bit_of
flags_back i zero bs h = refl
flags_back i (suc zero) bs h = refl
flags_back i (suc (suc zero)) bs h = refl
flags_back i (suc (suc (suc zero))) bs h = refl
flags_back i (suc (suc (suc (suc zero)))) bs h = refl
flags_back i (suc (suc (suc (suc (suc zero))))) bs h = refl
flags_back i (suc (suc (suc (suc (suc (suc zero)))))) bs h = refl
flags_back i (suc (suc (suc (suc (suc (suc (suc zero))))))) bs h = refl
flags_back i (suc (suc (suc (suc (suc (suc (suc (suc f)))))))) bs h = absurd (omega arith)

-- a flag times a peer
pub peer_product : (has peer : ℕ) → has ≤ 1 → has * peer ≡ peer_written has peer
unfolding peer_written yes?
peer_product zero peer h = omega arith
peer_product (suc zero) peer h = omega arith
peer_product (suc (suc has)) peer h = absurd (omega arith)

-- a flag and a peer, or nine zero bytes
peer_written_lem : (has peer : ℕ) → has ≤ 1 → bytes_of 1 has ++ bytes_of 8 (peer_written has peer) ≡ peer_bytes (peer_from has peer)
unfolding peer_bytes peer_from yes? peer_written
peer_written_lem zero peer h = refl
peer_written_lem (suc zero) peer h = refl
peer_written_lem (suc (suc has)) peer h = absurd (omega arith)

-- ---- records
-- the head, by its words
pub head_put : (words : List ℕ) (a b c d e f : ℕ) (before after : List ℕ) → a ≡ head_word words 0 → b ≡ head_word words 1 → c ≡ head_word words 2
    → d ≡ head_word words 3 → e ≡ head_word words 4 → f ≡ head_word words 5 → Put 0 (head_fields a b c d e f) before after
    → Put 0 (head_in words) before after
unfolding head_in
head_put words a b c d e f before after ea eb ec ed ee ef p = rw (← ea, ← eb, ← ec, ← ed, ← ee, ← ef) p

-- piece i, by the numbers of its columns
pub piece_put : (words cells : List ℕ) (n i at a b c d e : ℕ) (before after : List ℕ) → PlainPieces n cells → i < n
    → a ≡ piece_cell cells n 0 i → b ≡ piece_cell cells n 1 i → c ≡ piece_cell cells n 2 i → d ≡ piece_cell cells n 3 i → e ≡ piece_word words n 0 i
    → Put at (piece_fields a b c d e) before after → Put at (piece_record (piece_held words cells n i)) before after
unfolding piece_fields piece_record piece_held
piece_put words cells n i at a b c d e before after g h ea eb ec ed ee p =
    let q : b ≡ queue_number (queue_from (piece_cell cells n 1 i)) = eb ∙ sym (queue_number_lem _ (omega (arith, g.states i h))) in
    let f : d ≡ bit (yes? (piece_cell cells n 3 i)) = ed ∙ sym (bit_yes _ (g.flushed i h)) in
    rw (← ea, ← q, ← ec, ← f, ← ee) p

-- a record of one number
pub number_put : (kind at m n : ℕ) (before after : List ℕ) → m ≡ n → Put at (number_record kind m) before after
    → Put at (number_record kind n) before after
number_put kind at m n before after e p = put_as at _ _ before after p (ap (number_record kind) e)

-- block j of place p
pub block_put : (words cells : List ℕ) (n b p j at u v w x : ℕ) (before after : List ℕ) → PlainBlock n b cells p j
    → u ≡ block_cell cells n b 0 p j → v ≡ block_cell cells n b 1 p j → w ≡ block_cell cells n b 2 p j
    → x ≡ peer_written w (peer_word words n b p j)
    → Put at (block_fields u v w x) before after → Put at (block_record (block_held words cells n b p j)) before after
unfolding block_fields block_record block_held block_from
block_put words cells n b p j at u v w x before after g eu ev ew ex q =
    let s : u ≡ block_state_number (state_from (block_cell cells n b 0 p j)) = eu ∙ sym (state_number _ (omega (arith, g.state))) in
    let t : bytes_of 1 w ++ bytes_of 8 x ≡ peer_bytes (peer_from (block_cell cells n b 2 p j) (peer_word words n b p j)) =
    ap (λ (k : ℕ). bytes_of 1 w ++ bytes_of 8 k) ex
    ∙ peer_written_lem w (peer_word words n b p j) (omega (arith, g.has))
    ∙ ap (λ (k : ℕ). peer_bytes (peer_from k (peer_word words n b p j))) ew in
    rw (← s, ← ev, ← t) q

-- the partial of a record
module _ (words cells : List ℕ) (n b : ℕ) (r : Record) where
  abbrev blocks_put : List ℕ
  blocks_put = concat_map block_record (tabulate (blocks_of words r.index) (block_held words cells n b r.info_idx))

  partial_parts : r.flags ≤ 7 → partial_fields r.index r.flags ++ blocks_put ≡ partial_records (partial_held words cells n b r)
  unfolding partial_fields partial_records partial_held partial_from blocks_held
  partial_parts h =
      let f = flags_back r.index r.flags (blocks_held words cells n b r.index r.info_idx) h in
      ap (λ (l : List ℕ). partial_kind ∷ l) (append_assoc (bytes_of 4 r.index) (bytes_of 1 r.flags) blocks_put
      ∙ ap (λ (k : ℕ). bytes_of 4 r.index ++ (bytes_of 1 k ++ blocks_put)) (sym f))

  fields_long : (i f : ℕ) → length (partial_fields i f) ≡ 6
  unfolding partial_fields bytes_of
  fields_long i f = refl

  -- its length
  pub partial_long : length (partial_records (partial_held words cells n b r)) ≡ 6 + 13 * blocks_of words r.index
  unfolding partial_records partial_held partial_from blocks_held bytes_of
  partial_long =
      omega (arith, run_long block_record (block_held words cells n b r.info_idx) 13 (blocks_of words r.index) (λ j. block_long _))

  -- its fields, and its blocks behind them
  pub partial_put : (at mid next i f p many : ℕ) (x y z : List ℕ) → r.flags ≤ 7 → i ≡ r.index → f ≡ r.flags → p ≡ r.info_idx
      → many ≡ blocks_of words r.index → mid ≡ at + 6 → Put at (partial_fields i f) x y
      → Appended mid (concat_map block_record (tabulate many (block_held words cells n b p))) y z next
      → Appended at (partial_records (partial_held words cells n b r)) x z next
  partial_put at mid next i f p many x y z h ei ef ep em e u v =
      let u' : Put at (partial_fields r.index r.flags) x y = rw (← ei, ← ef) u in
      let v' : Appended mid blocks_put y z next =
      appended_as mid next _ _ y z v (ap₂ (λ (k l : ℕ). concat_map block_record (tabulate k (block_held words cells n b l))) em ep) in
      appended_as at next _ _ x z
      (appended_then at mid next (partial_fields r.index r.flags) blocks_put x y z
      (record { put = u'; place = omega (arith, fields_long r.index r.flags) }) v')
      (partial_parts h)
