-- Telling cases, computed: what the definition answers to short lists of calls, as the unchanged Rust does where document 01 names no
-- difference.
use mathlib.Core.Path.{◌≡◌, refl}
use Prim.Native.Nat.{ℕ, ◌-◌}
use mathlib.Core.Bool.{true, false}
use mathlib.Core.List.{List, [], ◌∷◌, ◌++◌}
use mathlib.Core.Option.{Option, none, some}
use lib.ListN.{length, replicate}
use Rattle.types.specs.declared.refusal.Refusal.TheVariants.{ShortMemory, FewDraws, OutOfRange, NoPeerToTake, HavePiece, NotWriting}
use Rattle.model.specs.State.{new}
use Rattle.model.specs.ask.Questions.{of_picker, of_piece, of_block, recent_extent, ask_list_place, num_seeds, dirty?, ask_have_piece}
use Rattle.model.specs.ask.Questions.{is_piece_flushed, piece_stats, peer_count, download_state, block_state, block_num_peers}
use Rattle.model.specs.ask.Questions.{block_peer, numbers, nothing, one}
use Rattle.model.specs.pick.Blocks.{PickRequest, piece_block}
use Rattle.model.specs.Calls.{Action, question, do_inc_refcount, do_dec_refcount, do_inc_refcount_all, do_set_piece_priority, do_mark_as_downloading}
use Rattle.model.specs.Calls.{do_mark_as_writing, do_mark_as_finished, do_mark_as_canceled, do_abort_download, do_piece_passed, do_pick_pieces, Call}
use Rattle.model.specs.Calls.{refused, done, said, replied, picked, answers}
use Rattle.model.specs.Memory.{Memory}
use Rattle.model.specs.image.Program.{program}
use Rattle.model.proofs.cases.Everything.{everything}

-- n lent words: those listed, then zeros
abbrev lent : ℕ → List ℕ → List ℕ
lent n ws = ws ++ replicate (n - length ws) 0

abbrev draws : List ℕ
draws = lent 4352 []

abbrev asking : ℕ → ℕ → ℕ → ℕ → Option ℕ → ℕ → List ℕ → List ℕ → PickRequest
asking o n r p q b bs ss = record { options = o; wanted = n; contiguous = r; peers = p; peer = q; bits = b; bytes = bs; suggestions = ss }

abbrev lending : ℕ → ℕ → ℕ → Memory
lending w c p = record { words = w; cells = c; partials = p }

abbrev call : Action → Call
call x = record { lent = lending 1000000 1000000 1000000; action = x }

-- document 01's pick program: its image and its pick record, a record to a line
example : List ℕ
example =
    1 ∷ 0 ∷ 0 ∷ 0 ∷ 0 ∷ 0 ∷ 1 ∷ 0 ∷ 0 ∷ 0 ∷ 0 ∷ 128 ∷ 0 ∷ 0 ∷ 0 ∷ 0 ∷ 0 ∷ 0 ∷ 0 ∷ 0 ∷ 0 ∷ 0 ∷ 2 ∷ 1 ∷
    2 ∷ 0 ∷ 2 ∷ 4 ∷ 4 ∷ 0 ∷ 0 ∷ 0 ∷ 0 ∷ 0 ∷
    2 ∷ 0 ∷ 1 ∷ 4 ∷ 4 ∷ 0 ∷ 0 ∷ 0 ∷ 0 ∷ 0 ∷
    7 ∷ 0 ∷ 3 ∷ 0 ∷ 3 ∷ 0 ∷ 0 ∷ 0 ∷ 10 ∷ 0 ∷ 0 ∷ 0 ∷ 0 ∷ 0 ∷ 0 ∷ 0 ∷ 0 ∷ 0 ∷ []

pick_example : program example ≡ picked (piece_block 0 0 ∷ piece_block 0 1 ∷ piece_block 1 0 ∷ []) 16 (0 ∷ 0 ∷ 2 ∷ 0 ∷ 0 ∷ 0 ∷ 0 ∷ []) 0
unfolding everything example
pick_example = refl

-- document 01: two pieces, only the drawn one in the bitfield and Full. The walk ends where the Rust's does not
ring_walk :
    answers (new 32768 16384)
    (call (do_inc_refcount 0 draws)
    ∷ call (do_mark_as_downloading 0 0 (some 7) 0 draws)
    ∷ call (do_pick_pieces (asking 0 1 0 10 (some 7) 2 (128 ∷ []) []) 4351 draws)
    ∷ [])
    ≡ done 0
    ∷ said true 0
    ∷ picked [] 9216 (0 ∷ 0 ∷ 0 ∷ 0 ∷ 1 ∷ 0 ∷ 1 ∷ []) 2
    ∷ []
unfolding everything
ring_walk = refl

-- b 4, run 6: two pieces leave a run of −2, and the next piece, aligned to no piece, comes alone
zero_run :
    answers (new 262144 65536)
    (call (do_pick_pieces (asking 64 12 6 10 none 4 (240 ∷ []) []) 4351 draws)
    ∷ [])
    ≡ picked (piece_block 0 0 ∷ piece_block 0 1 ∷ piece_block 0 2 ∷ piece_block 0 3 ∷ piece_block 1 0 ∷ piece_block 1 1 ∷ piece_block 1 2 ∷ piece_block 1 3 ∷ piece_block 2 0 ∷ piece_block 2 1 ∷ piece_block 2 2 ∷ piece_block 2 3 ∷ []) 3072 (0 ∷ 0 ∷ 0 ∷ 0 ∷ 0 ∷ 8 ∷ 0 ∷ []) 1
    ∷ []
unfolding everything
zero_run = refl

-- a piece that is turned reverse and back: its bucket follows
turned_and_back :
    answers (new 65536 32768)
    (call (do_inc_refcount 0 draws)
    ∷ call (do_inc_refcount 1 draws)
    ∷ call (question (of_piece piece_stats 1))
    ∷ call (do_pick_pieces (asking 1 1 0 10 none 2 (192 ∷ []) []) 4351 draws)
    ∷ call (do_mark_as_downloading 1 0 (some 3) 2 draws)
    ∷ call (question (of_piece piece_stats 1))
    ∷ call (question (ask_list_place 1))
    ∷ call (do_mark_as_downloading 1 1 (some 3) 0 draws)
    ∷ call (question (of_piece piece_stats 1))
    ∷ call (question (ask_list_place 1))
    ∷ [])
    ≡ done 0
    ∷ done 0
    ∷ replied (numbers (some 1 ∷ some 22 ∷ some 0 ∷ some 0 ∷ []))
    ∷ picked (piece_block 1 0 ∷ []) 8 (0 ∷ 0 ∷ 0 ∷ 1 ∷ 0 ∷ 0 ∷ 0 ∷ []) 1
    ∷ said true 0
    ∷ replied (numbers (some 1 ∷ some 23 ∷ some 0 ∷ some 1 ∷ []))
    ∷ replied (one 1)
    ∷ said true 0
    ∷ replied (numbers (some 1 ∷ none ∷ some 0 ∷ some 1 ∷ []))
    ∷ refused OutOfRange
    ∷ []
unfolding everything
turned_and_back = refl

-- taking a peer from a piece with count 0 breaks a seed, and then there is none to break
break_one_seed :
    answers (new 2 1)
    (call do_inc_refcount_all
    ∷ call (do_dec_refcount 0 draws)
    ∷ call (question (of_picker num_seeds))
    ∷ call (question (of_piece peer_count 0))
    ∷ call (question (of_piece peer_count 1))
    ∷ call (question (of_picker dirty?))
    ∷ call (do_dec_refcount 0 draws)
    ∷ [])
    ≡ done 0
    ∷ done 0
    ∷ replied (one 0)
    ∷ replied (one 0)
    ∷ replied (one 1)
    ∷ replied (one 1)
    ∷ refused NoPeerToTake
    ∷ []
unfolding everything
break_one_seed = refl

-- several refusals hold: the lowest is returned
table_order :
    answers (new 16384 16384)
    (call (do_mark_as_writing 0 0 none draws)
    ∷ call (do_piece_passed 0)
    ∷ call (do_mark_as_finished 0 0 none draws)
    ∷ call (question (of_piece ask_have_piece 0))
    ∷ call (do_mark_as_downloading 0 0 none 0 draws)
    ∷ call (do_mark_as_downloading 0 1 none 0 draws)
    ∷ call (do_dec_refcount 1 (lent 4351 []))
    ∷ call (do_mark_as_downloading 1 0 none 0 (lent 4351 []))
    ∷ record { lent = lending 1 1 1; action = do_mark_as_downloading 1 0 none 0 [] }
    ∷ [])
    ≡ said true 0
    ∷ done 0
    ∷ done 0
    ∷ replied (one 1)
    ∷ refused HavePiece
    ∷ refused OutOfRange
    ∷ refused FewDraws
    ∷ refused FewDraws
    ∷ refused ShortMemory
    ∷ []
unfolding everything
table_order = refl

-- one piece of one block in memory that is just enough, and with each buffer one too short
each_buffer :
    answers (new 16384 16384)
    (record { lent = lending 19 7 1; action = question (of_piece ask_have_piece 0) }
    ∷ record { lent = lending 18 7 1; action = question (of_piece ask_have_piece 0) }
    ∷ record { lent = lending 19 6 1; action = question (of_piece ask_have_piece 0) }
    ∷ record { lent = lending 19 7 0; action = question (of_piece ask_have_piece 0) }
    ∷ [])
    ≡ replied (one 0) ∷ refused ShortMemory ∷ refused ShortMemory ∷ refused ShortMemory ∷ []
unfolding everything
each_buffer = refl

-- a Writing block marked again is answered false and takes the peer; a had piece finished again is accepted
writing_again :
    answers (new 16384 16384)
    (call (do_mark_as_writing 0 0 (some 1) draws)
    ∷ call (do_mark_as_writing 0 0 (some 2) draws)
    ∷ call (question (of_block block_peer 0 0))
    ∷ call (do_piece_passed 0)
    ∷ call (do_mark_as_finished 0 0 none draws)
    ∷ call (do_mark_as_finished 0 0 (some 9) draws)
    ∷ call (question (of_piece is_piece_flushed 0))
    ∷ [])
    ≡ said true 0
    ∷ said false 0
    ∷ replied (one 2)
    ∷ done 0
    ∷ done 0
    ∷ done 0
    ∷ replied (one 1)
    ∷ []
unfolding everything
writing_again = refl

-- a Requested block is finished only by way of Writing
not_without_writing :
    answers (new 16384 16384)
    (call (do_mark_as_downloading 0 0 (some 1) 0 draws)
    ∷ call (do_mark_as_finished 0 0 (some 1) draws)
    ∷ call (do_mark_as_writing 0 0 (some 1) draws)
    ∷ call (do_mark_as_finished 0 0 (some 1) draws)
    ∷ call (question (of_piece download_state 0))
    ∷ [])
    ≡ said true 0
    ∷ refused NotWriting
    ∷ said true 0
    ∷ done 0
    ∷ replied (one 2)
    ∷ []
unfolding everything
not_without_writing = refl

-- case 10: priority 7 stands behind a lower bucket in the list, so the sequential walk of top pieces leaves at once
top_is_passed_over :
    answers (new 32768 16384)
    (call (do_inc_refcount 0 draws)
    ∷ call (do_inc_refcount 0 draws)
    ∷ call (do_inc_refcount 0 draws)
    ∷ call (do_inc_refcount 0 draws)
    ∷ call (do_inc_refcount 0 draws)
    ∷ call (do_inc_refcount 0 draws)
    ∷ call (do_inc_refcount 0 draws)
    ∷ call (do_inc_refcount 0 draws)
    ∷ call (do_inc_refcount 0 draws)
    ∷ call (do_inc_refcount 1 draws)
    ∷ call (do_set_piece_priority 0 7 draws)
    ∷ call (do_pick_pieces (asking 16 1 0 10 none 2 (192 ∷ []) []) 4351 draws)
    ∷ [])
    ≡ done 0
    ∷ done 0
    ∷ done 0
    ∷ done 0
    ∷ done 0
    ∷ done 0
    ∷ done 0
    ∷ done 0
    ∷ done 0
    ∷ done 0
    ∷ said false 0
    ∷ picked (piece_block 1 0 ∷ []) 128 (0 ∷ 0 ∷ 0 ∷ 0 ∷ 0 ∷ 0 ∷ 0 ∷ []) 0
    ∷ []
unfolding everything
top_is_passed_over = refl

-- a block comes twice: from a recent extent, then from the list
twice :
    answers (new 65536 16384)
    (call (do_inc_refcount 0 draws)
    ∷ call (do_inc_refcount 1 draws)
    ∷ call (do_inc_refcount 2 draws)
    ∷ call (do_inc_refcount 3 draws)
    ∷ call (do_mark_as_downloading 0 0 (some 1) 128 draws)
    ∷ call (do_mark_as_writing 0 0 (some 1) draws)
    ∷ call (do_piece_passed 0)
    ∷ call (do_mark_as_finished 0 0 (some 1) draws)
    ∷ call (question (recent_extent 0))
    ∷ call (do_pick_pieces (asking 129 6 0 10 none 4 (240 ∷ []) []) 4351 draws)
    ∷ [])
    ≡ done 0
    ∷ done 0
    ∷ done 0
    ∷ done 0
    ∷ said true 0
    ∷ said true 0
    ∷ done 0
    ∷ done 0
    ∷ replied (one 0)
    ∷ picked (piece_block 1 0 ∷ piece_block 2 0 ∷ piece_block 3 0 ∷ piece_block 2 0 ∷ piece_block 3 0 ∷ piece_block 1 0 ∷ []) 65544 (0 ∷ 0 ∷ 0 ∷ 3 ∷ 0 ∷ 0 ∷ 0 ∷ []) 2
    ∷ []
unfolding everything
twice = refl

-- a run that does not fit a partial which another peer works on: its blocks are set aside and come at the end
set_aside :
    answers (new 65536 65536)
    (call (do_inc_refcount 0 draws)
    ∷ call (do_mark_as_downloading 0 1 (some 1) 0 draws)
    ∷ call (do_pick_pieces (asking 1 2 4 10 (some 2) 1 (128 ∷ []) []) 4351 draws)
    ∷ [])
    ≡ done 0
    ∷ said true 0
    ∷ picked (piece_block 0 2 ∷ piece_block 0 3 ∷ []) 10248 (0 ∷ 0 ∷ 0 ∷ 1 ∷ 0 ∷ 0 ∷ 0 ∷ []) 0
    ∷ []
unfolding everything
set_aside = refl

-- all blocks requested: one that another peer value holds; on parole none
end_game :
    answers (new 32768 32768)
    (call (do_inc_refcount 0 draws)
    ∷ call (do_mark_as_downloading 0 0 (some 1) 0 draws)
    ∷ call (do_mark_as_downloading 0 1 (some 2) 0 draws)
    ∷ call (do_pick_pieces (asking 1 1 0 10 (some 1) 1 (128 ∷ []) []) 4351 draws)
    ∷ call (do_pick_pieces (asking 5 1 0 10 (some 1) 1 (128 ∷ []) []) 4351 draws)
    ∷ [])
    ≡ done 0
    ∷ said true 0
    ∷ said true 0
    ∷ picked (piece_block 0 1 ∷ []) 40960 (0 ∷ 0 ∷ 0 ∷ 0 ∷ 0 ∷ 0 ∷ 1 ∷ []) 2
    ∷ picked [] 8192 (0 ∷ 0 ∷ 0 ∷ 0 ∷ 0 ∷ 0 ∷ 0 ∷ []) 0
    ∷ []
unfolding everything
end_game = refl

-- a peer is a number of 64 bits, in a mark as in a pick: 2^64 + 1 is peer 1, and peer 0 is another
lent_peer :
    answers (new 16384 16384)
    (call (do_inc_refcount 0 draws)
    ∷ call (do_mark_as_downloading 0 0 (some 18446744073709551617) 0 draws)
    ∷ call (question (of_block block_peer 0 0))
    ∷ call (do_pick_pieces (asking 1 1 0 10 (some 18446744073709551617) 1 (128 ∷ []) []) 4351 draws)
    ∷ call (do_pick_pieces (asking 1 1 0 10 (some 18446744073709551616) 1 (128 ∷ []) []) 4351 draws)
    ∷ [])
    ≡ done 0
    ∷ said true 0
    ∷ replied (one 1)
    ∷ picked [] 8192 (0 ∷ 0 ∷ 0 ∷ 0 ∷ 0 ∷ 0 ∷ 1 ∷ []) 1
    ∷ picked (piece_block 0 0 ∷ []) 40960 (0 ∷ 0 ∷ 0 ∷ 0 ∷ 0 ∷ 0 ∷ 1 ∷ []) 2
    ∷ []
unfolding everything
lent_peer = refl

-- a suggestion out of range is skipped and counted
skipped_suggestion :
    answers (new 32768 16384)
    (call (do_inc_refcount 0 draws)
    ∷ call (do_inc_refcount 1 draws)
    ∷ call (do_pick_pieces (asking 1 1 0 10 none 2 (192 ∷ []) (5 ∷ 1 ∷ 0 ∷ [])) 4351 draws)
    ∷ [])
    ≡ done 0
    ∷ done 0
    ∷ picked (piece_block 1 0 ∷ []) 32 (0 ∷ 2 ∷ 0 ∷ 0 ∷ 0 ∷ 0 ∷ 0 ∷ []) 0
    ∷ []
unfolding everything
skipped_suggestion = refl

-- peers 0: one partial forces PRIORITIZE_PARTIALS and drops the run
forced :
    answers (new 32768 32768)
    (call (do_inc_refcount 0 draws)
    ∷ call (do_mark_as_downloading 0 0 (some 1) 0 draws)
    ∷ call (do_pick_pieces (asking 1 1 2 0 (some 1) 1 (128 ∷ []) []) 4351 draws)
    ∷ [])
    ≡ done 0
    ∷ said true 0
    ∷ picked (piece_block 0 1 ∷ []) 7 (1 ∷ 0 ∷ 0 ∷ 0 ∷ 0 ∷ 0 ∷ 0 ∷ []) 0
    ∷ []
unfolding everything
forced = refl

-- the last requester gives a block back: the partial is closed, and the piece is as before
given_back :
    answers (new 16384 16384)
    (call (do_mark_as_downloading 0 0 (some 1) 0 draws)
    ∷ call (do_mark_as_downloading 0 0 (some 2) 0 draws)
    ∷ call (do_abort_download 0 0 (some 2) draws)
    ∷ call (question (of_block block_peer 0 0))
    ∷ call (do_abort_download 0 0 (some 1) draws)
    ∷ call (question (of_block block_peer 0 0))
    ∷ call (question (of_piece download_state 0))
    ∷ [])
    ≡ said true 0
    ∷ said true 0
    ∷ done 0
    ∷ replied (numbers (none ∷ []))
    ∷ done 0
    ∷ replied nothing
    ∷ replied (one 4)
    ∷ []
unfolding everything
given_back = refl

-- a Requested block handed to another peer, and to none: it stays Requested, by as many
handed_on :
    answers (new 16384 16384)
    (call (do_mark_as_downloading 0 0 (some 1) 0 draws)
    ∷ call (do_mark_as_downloading 0 0 (some 2) 0 draws)
    ∷ call (do_mark_as_canceled 0 0 (some 3) draws)
    ∷ call (question (of_block block_state 0 0))
    ∷ call (question (of_block block_num_peers 0 0))
    ∷ call (question (of_block block_peer 0 0))
    ∷ call (do_mark_as_canceled 0 0 none draws)
    ∷ call (question (of_block block_state 0 0))
    ∷ call (question (of_block block_peer 0 0))
    ∷ [])
    ≡ said true 0
    ∷ said true 0
    ∷ done 0
    ∷ replied (one 1)
    ∷ replied (one 2)
    ∷ replied (one 3)
    ∷ done 0
    ∷ replied (one 1)
    ∷ replied (numbers (none ∷ []))
    ∷ []
unfolding everything
handed_on = refl

-- Writing blocks given back: the first keeps the named peer while the partial stands, with the second the partial is closed. A Finished
-- block stays as it is, and so does a piece without a partial
canceled :
    answers (new 49152 32768)
    (call (do_inc_refcount 0 draws)
    ∷ call (do_mark_as_writing 0 0 (some 1) draws)
    ∷ call (do_mark_as_writing 0 1 (some 1) draws)
    ∷ call (question (of_piece download_state 0))
    ∷ call (do_mark_as_canceled 0 0 (some 2) draws)
    ∷ call (question (of_block block_state 0 0))
    ∷ call (question (of_block block_peer 0 0))
    ∷ call (question (of_piece download_state 0))
    ∷ call (do_mark_as_canceled 0 1 (some 2) draws)
    ∷ call (question (of_block block_state 0 1))
    ∷ call (question (of_piece download_state 0))
    ∷ call (do_mark_as_finished 1 0 (some 1) draws)
    ∷ call (do_mark_as_canceled 1 0 (some 2) draws)
    ∷ call (question (of_block block_peer 1 0))
    ∷ call (do_mark_as_canceled 0 0 (some 2) draws)
    ∷ call (do_mark_as_canceled 1 1 (some 2) draws)
    ∷ call (do_mark_as_canceled 1 0 (some 2) (lent 4351 []))
    ∷ [])
    ≡ done 0
    ∷ said true 0
    ∷ said true 0
    ∷ replied (one 2)
    ∷ done 0
    ∷ replied (one 0)
    ∷ replied (one 2)
    ∷ replied (one 0)
    ∷ done 0
    ∷ replied nothing
    ∷ replied (one 4)
    ∷ done 0
    ∷ done 0
    ∷ replied (one 1)
    ∷ done 0
    ∷ refused OutOfRange
    ∷ refused FewDraws
    ∷ []
unfolding everything
canceled = refl

-- a piece that is back in its bucket is put into the list by a draw
canceled_draws :
    answers (new 32768 16384)
    (call (do_inc_refcount 0 draws)
    ∷ call (do_inc_refcount 1 draws)
    ∷ call (do_mark_as_writing 0 0 (some 1) draws)
    ∷ call (do_pick_pieces (asking 1 1 0 10 none 2 (192 ∷ []) []) 4351 draws)
    ∷ call (do_mark_as_canceled 0 0 none (lent 4352 (1 ∷ [])))
    ∷ call (question (ask_list_place 0))
    ∷ call (question (ask_list_place 1))
    ∷ [])
    ≡ done 0
    ∷ done 0
    ∷ said true 0
    ∷ picked (piece_block 1 0 ∷ []) 8 (0 ∷ 0 ∷ 0 ∷ 1 ∷ 0 ∷ 0 ∷ 0 ∷ []) 0
    ∷ done 1
    ∷ replied (one 1)
    ∷ replied (one 0)
    ∷ []
unfolding everything
canceled_draws = refl
