-- The length of an image, record by record.
use mathlib.Core.Path.{◌≡◌, refl}
use mathlib.Core.List.{List, [], ◌∷◌}
use mathlib.Core.Option.{Option, none, some}
use Prim.Native.Nat.{ℕ, ◌+◌, ◌*◌}
use native.Mathlib.Omega.{arith}
use Rattle.model.specs.Lists.{len, concat_map}
use Rattle.model.specs.State.{Piece, Block, DownloadingPiece, Picker, pieces_in, list_of}
use Rattle.model.specs.image.Image.{bytes_of, head_record, piece_record, peer_bytes, block_record, partial_records, number_record, extent_kind}
use Rattle.model.specs.image.Image.{place_kind, image}
use Rattle.model.proofs.image.Bytes.{size_append}
use Rattle.geometry_needs.specs.Needs.{image_length, blocks_of}

-- records of one length
size_concat_map : {A : Type 0} (f : A → List ℕ) (k : ℕ) → ((x : A) → len (f x) ≡ k) → (l : List A) → len (concat_map f l) ≡ k * len l
unfolding len concat_map
size_concat_map f k h [] = omega arith
size_concat_map f k h (x ∷ xs) = omega (arith, size_append (f x) (concat_map f xs), h x, size_concat_map f k h xs)

-- ---- records
size_head : (s : Picker) → len (head_record s) ≡ 24
unfolding head_record len bytes_of
size_head s = refl

size_piece : (p : Piece) → len (piece_record p) ≡ 10
unfolding piece_record len bytes_of
size_piece p = refl

size_peer : (p : Option ℕ) → len (peer_bytes p) ≡ 9
unfolding peer_bytes len bytes_of
size_peer none = refl
size_peer (some n) = refl

size_block : (b : Block) → len (block_record b) ≡ 13
unfolding block_record len bytes_of
size_block b = omega (arith, size_peer b.peer)

size_partial : (d : DownloadingPiece) → len (partial_records d) ≡ 6 + 13 * len d.blocks
unfolding partial_records len bytes_of
size_partial d = omega (arith, size_concat_map block_record 13 size_block d.blocks)

size_number : (kind n : ℕ) → len (number_record kind n) ≡ 5
unfolding number_record len bytes_of
size_number kind n = refl

size_partials : (ds : List DownloadingPiece) → len (concat_map partial_records ds) ≡ 6 * len ds + 13 * blocks_of ds
unfolding concat_map len blocks_of
size_partials [] = refl
size_partials (d ∷ ds) =
    omega (arith, size_append (partial_records d) (concat_map partial_records ds), size_partial d, size_partials ds)

-- ---- the image
pub size_image : (s : Picker)
    → len (image s) ≡ image_length (pieces_in s) (len s.partials) (blocks_of s.partials) (len s.recent_extents) (len (list_of s.listing))
unfolding image image_length pieces_in
size_image s = rw (size_append, size_append, size_append, size_append, size_head, size_concat_map piece_record 10 size_piece s.pieces, size_partials, size_concat_map (number_record extent_kind) 5 (size_number extent_kind) s.recent_extents, size_concat_map (number_record place_kind) 5 (size_number place_kind) (list_of s.listing)) (omega arith)
