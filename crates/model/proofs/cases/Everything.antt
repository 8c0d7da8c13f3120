-- All definitions of the model opened at once, for cases that the checker computes: a case says `unfolding everything` and `refl`.
-- Written by compare/everything.py: not to be edited.
use Rattle.model.specs.Lists.{least, from, range, range_down, count, filter, every, any, nth, len, set_nth, remove_nth, last_or, reversed}
use Rattle.model.specs.Lists.{member, place_of, each, concat_map, unless, when, branch, repeat, for_each, walk_until, walk, insert_by}
use Rattle.model.specs.Lists.{sort_by}
use Rattle.model.specs.Bep3.{parts_of, part_length, sum_to, num_pieces, piece_length, block_length, block_count, block_start}
use Rattle.model.specs.Bep3.{block_length_at, whole_piece_blocks, piece_blocks, piece_of_byte, block_of_byte, bitfield_bytes, bit_of}
use Rattle.model.specs.Bep3.{bit_at, none_set, spare_zero}
use Rattle.model.specs.State.{same_queue, is_open, same_block_state, same_peer, has_peer, is_dirty, list_of, no_piece, no_block}
use Rattle.model.specs.State.{with_peer_count, with_state, with_priority, with_flushed, with_peer, with_blocks, with_flags, with_seeds}
use Rattle.model.specs.State.{with_cursors, with_pieces, with_partials, with_recent_extents, with_listing, piece_at, with_piece, pieces_in}
use Rattle.model.specs.State.{mark_dirty, piece_size_at, blocks_per_piece, blocks_in_piece, payload_blocks_in_piece, extent_size}
use Rattle.model.specs.State.{num_extents, extent_for, extent_start, extent_end, valid_geometry, fresh_piece, new}
use Rattle.model.specs.list.Order.{unlisted, adjustment, bucket_number, bucket, rank_of, rank, draw, group_start, group_size, carry}
use Rattle.model.specs.list.Order.{turn_left, bring, turn_right, placed, removed, earlier, later, swap, added, add_draws, group_last}
use Rattle.model.specs.list.Order.{group_drawn, changed, change_draws, updated, update_draws, inserted, sorted, shuffled, run_length}
use Rattle.model.specs.list.Order.{groups_shuffled, group_draws, with_bucket, sorted_pieces, rebuilt, rebuild_draws, drawing, no_draw}
use Rattle.model.specs.list.Order.{update_in, update, update_pieces_in, update_pieces, change_and_update}
use Rattle.model.specs.list.Listed.{rising_from, rising, ListingOk}
use Rattle.model.specs.change.Partials.{find_dl_piece, partial_of, block_at, blocks_in_state, progress, in_queue, replace_in}
use Rattle.model.specs.change.Partials.{replace_partial, replace_block, in_direction, new_state, set_state, move_state, update_state_of}
use Rattle.model.specs.change.Partials.{update_piece_state, fresh_block, fresh_partial, insert_in, add_partial, add_download_piece}
use Rattle.model.specs.change.Partials.{drop_partial, erase_download_piece, erase_and_update}
use Rattle.model.specs.change.Changes.{quietly, saying, inc_peer_count, dec_peer_count, all_pieces, inc_refcount, break_one_seed}
use Rattle.model.specs.change.Changes.{dec_refcount, inc_refcount_all, dec_refcount_all, flushed_or_filtered, flushed_or_filtered_run}
use Rattle.model.specs.change.Changes.{cursor_from, reverse_from, empty_range, advance_cursors, cursors_on_filter, filter_changes}
use Rattle.model.specs.change.Changes.{priority_set, set_piece_priority, neighbours, worth_recording, recordable, record_downloading_piece}
use Rattle.model.specs.change.Changes.{reverse_asked, affinity_asked, opened, set_block, mark_first, mark_opening, set_direction}
use Rattle.model.specs.change.Changes.{make_piece_reverse, unreverse_piece, requested_by, written_by, finished_by, received, request}
use Rattle.model.specs.change.Changes.{mark_downloading_in, mark_as_downloading, mark_writing_in, mark_as_writing, piece_flushed}
use Rattle.model.specs.change.Changes.{all_finished, flush_if, flush_done, finished_peer, mark_finished_in, mark_as_finished, freed}
use Rattle.model.specs.change.Changes.{canceled, free_block, cancel_in, mark_as_canceled, released, abort_in, abort_download, lock_in}
use Rattle.model.specs.change.Changes.{lock_piece, pass_in, piece_passed}
use Rattle.model.specs.ask.Questions.{plain, one, flag, passed_in, have_piece, filtered, pieces_where, count_where, sum, pad_bytes_where}
use Rattle.model.specs.ask.Questions.{num_have, num_filtered, num_have_filtered, counted, copies, lowest, distributed, info, info_of}
use Rattle.model.specs.ask.Questions.{queue_info, queue_sizes, availability, reply_picker, list_picker, of_partial, hashing_in, finished_in}
use Rattle.model.specs.ask.Questions.{peers_in, block_info, stats, reply_piece, list_piece, block_in, block_test, of_block_there}
use Rattle.model.specs.ask.Questions.{num_peers_of, downloader_of, reply_block, place_in, list_place, reply}
use Rattle.model.specs.pick.Blocks.{option, has_bit, start_state, spent, with_out, with_contiguous, with_backup, with_picker, ignore}
use Rattle.model.specs.pick.Blocks.{flagged, steps, is_ignored, contiguous_is_zero, contiguous_above, shorter, whole_pieces, is_piece_free}
use Rattle.model.specs.pick.Blocks.{can_pick, down_by, up_by, alone, lowest_start, span_from, span_of, expand_piece, pieces_of, piece_block}
use Rattle.model.specs.pick.Blocks.{took, contiguous_met, contiguous_over, span_step, take_span, take_payload, add_new_piece, longer}
use Rattle.model.specs.pick.Blocks.{longest_free, by_another, requested_from, free_from, enough_aside, put_aside, set_aside, free_halt}
use Rattle.model.specs.pick.Blocks.{take_free, keeping_contiguous, use_free, add_blocks_downloading, add_partial_of, add_standing}
use Rattle.model.specs.pick.Blocks.{add_blocks, append_blocks}
use Rattle.model.specs.pick.Pick.{forced, is_forced, forced_request, effective_request, start_pick, usable, scan_step, scan_partials}
use Rattle.model.specs.pick.Pick.{partial_compare_rarest_first, by_rarity, ordered_partials, partial_step, walk_partials, pick_scanned}
use Rattle.model.specs.pick.Pick.{pick_partials, visit, suggest, pick_suggested, leading_top, visit_below_top, pick_range, pick_sequential}
use Rattle.model.specs.pick.Pick.{in_range, visit_outside, rare_step, reverse_rare_step, all_flushed, found_finished, extent_step}
use Rattle.model.specs.pick.Pick.{forget_extent, pick_extents, pick_forward, pick_rarest, stands_open, onward, trace, same_trace, skip_step}
use Rattle.model.specs.pick.Pick.{skip_done, skip, rand_step, take_all, arrive, random_span, random_piece, random_visit, ended, marked}
use Rattle.model.specs.pick.Pick.{lap_ends, lap_from, lap_step, walk_over, ring, pick_random, busy_blocks, full_partials, no_partial}
use Rattle.model.specs.pick.Pick.{swap_remove, end_game_try, end_game_step, end_game_done, pick_end_game, with_list_updated, pick_listed}
use Rattle.model.specs.pick.Pick.{pick_main, pick_rest, phases, pick_pieces}
use Rattle.model.specs.image.WellFormed.{head_ok, piece_ok, peer_ok, block_ok, state_ok, partial_ok, extent_ok, place_ok, pieces_ok}
use Rattle.model.specs.image.WellFormed.{partials_ok, extents_ok, order_ok, listing_ok, well_formed}
use Rattle.model.specs.image.Sound.{partials_from}
use Rattle.model.specs.image.Image.{body_length, bytes_of, head_record, piece_record, peer_bytes, block_record, flags_of, partial_records}
use Rattle.model.specs.image.Image.{number_record, image, next, number_of, field, starts_with, given, judged, obeying, head_of, read_head}
use Rattle.model.specs.image.Image.{piece_of, read_piece, peer_fits, peer_of, block_of, read_block, last_fits, read_last_block}
use Rattle.model.specs.image.Image.{read_partial, get_pieces, get_blocks, partial_with, get_partial, get_partials, read_extent, comes}
use Rattle.model.specs.image.Image.{get_extents, read_place, get_order, get_listing, get_picker, whole, read_image}
use Rattle.model.specs.image.Program.{request_of, read_request, get_job, pick_of, job_answer, program_answer, program}
use Rattle.model.specs.Memory.{partials_needed, words_needed, cells_needed, memory_for, memory_needed, is_short}
use Rattle.model.specs.Calls.{records_needed, check, refuse_few_draws, refuse_bad_piece, refuse_bad_block, peers_full, num_peers_full}
use Rattle.model.specs.Calls.{block_there, no_partial_left, no_place, question_refusal, bitfield_fits, request_fits, refusal, answering}
use Rattle.model.specs.Calls.{change_answer, changing, doing, lent_peer, lent_request, picking, act, unless_refused, step, answers, run}
use Rattle.model.specs.Calls.{within, new_picker, read_within, read_picker, take_image}

unfoldable pub everything : Unit {0}
unfolding least from range range_down count filter every any nth len set_nth remove_nth last_or reversed member place_of each concat_map unless when branch repeat for_each walk_until walk insert_by sort_by parts_of part_length sum_to num_pieces piece_length block_length block_count block_start block_length_at whole_piece_blocks piece_blocks piece_of_byte block_of_byte bitfield_bytes bit_of bit_at none_set spare_zero same_queue is_open same_block_state same_peer has_peer is_dirty list_of no_piece no_block with_peer_count with_state with_priority with_flushed with_peer with_blocks with_flags with_seeds with_cursors with_pieces with_partials with_recent_extents with_listing piece_at with_piece pieces_in mark_dirty piece_size_at blocks_per_piece blocks_in_piece payload_blocks_in_piece extent_size num_extents extent_for extent_start extent_end valid_geometry fresh_piece new unlisted adjustment bucket_number bucket rank_of rank draw group_start group_size carry turn_left bring turn_right placed removed earlier later swap added add_draws group_last group_drawn changed change_draws updated update_draws inserted sorted shuffled run_length groups_shuffled group_draws with_bucket sorted_pieces rebuilt rebuild_draws drawing no_draw update_in update update_pieces_in update_pieces change_and_update rising_from rising ListingOk find_dl_piece partial_of block_at blocks_in_state progress in_queue replace_in replace_partial replace_block in_direction new_state set_state move_state update_state_of update_piece_state fresh_block fresh_partial insert_in add_partial add_download_piece drop_partial erase_download_piece erase_and_update quietly saying inc_peer_count dec_peer_count all_pieces inc_refcount break_one_seed dec_refcount inc_refcount_all dec_refcount_all flushed_or_filtered flushed_or_filtered_run cursor_from reverse_from empty_range advance_cursors cursors_on_filter filter_changes priority_set set_piece_priority neighbours worth_recording recordable record_downloading_piece reverse_asked affinity_asked opened set_block mark_first mark_opening set_direction make_piece_reverse unreverse_piece requested_by written_by finished_by received request mark_downloading_in mark_as_downloading mark_writing_in mark_as_writing piece_flushed all_finished flush_if flush_done finished_peer mark_finished_in mark_as_finished freed canceled free_block cancel_in mark_as_canceled released abort_in abort_download lock_in lock_piece pass_in piece_passed plain one flag passed_in have_piece filtered pieces_where count_where sum pad_bytes_where num_have num_filtered num_have_filtered counted copies lowest distributed info info_of queue_info queue_sizes availability reply_picker list_picker of_partial hashing_in finished_in peers_in block_info stats reply_piece list_piece block_in block_test of_block_there num_peers_of downloader_of reply_block place_in list_place reply option has_bit start_state spent with_out with_contiguous with_backup with_picker ignore flagged steps is_ignored contiguous_is_zero contiguous_above shorter whole_pieces is_piece_free can_pick down_by up_by alone lowest_start span_from span_of expand_piece pieces_of piece_block took contiguous_met contiguous_over span_step take_span take_payload add_new_piece longer longest_free by_another requested_from free_from enough_aside put_aside set_aside free_halt take_free keeping_contiguous use_free add_blocks_downloading add_partial_of add_standing add_blocks append_blocks forced is_forced forced_request effective_request start_pick usable scan_step scan_partials partial_compare_rarest_first by_rarity ordered_partials partial_step walk_partials pick_scanned pick_partials visit suggest pick_suggested leading_top visit_below_top pick_range pick_sequential in_range visit_outside rare_step reverse_rare_step all_flushed found_finished extent_step forget_extent pick_extents pick_forward pick_rarest stands_open onward trace same_trace skip_step skip_done skip rand_step take_all arrive random_span random_piece random_visit ended marked lap_ends lap_from lap_step walk_over ring pick_random busy_blocks full_partials no_partial swap_remove end_game_try end_game_step end_game_done pick_end_game with_list_updated pick_listed pick_main pick_rest phases pick_pieces head_ok piece_ok peer_ok block_ok state_ok partial_ok extent_ok place_ok pieces_ok partials_ok extents_ok order_ok listing_ok well_formed partials_from body_length bytes_of head_record piece_record peer_bytes block_record flags_of partial_records number_record image next number_of field starts_with given judged obeying head_of read_head piece_of read_piece peer_fits peer_of block_of read_block last_fits read_last_block read_partial get_pieces get_blocks partial_with get_partial get_partials read_extent comes get_extents read_place get_order get_listing get_picker whole read_image request_of read_request get_job pick_of job_answer program_answer program partials_needed words_needed cells_needed memory_for memory_needed is_short records_needed check refuse_few_draws refuse_bad_piece refuse_bad_block peers_full num_peers_full block_there no_partial_left no_place question_refusal bitfield_fits request_fits refusal answering change_answer changing doing lent_peer lent_request picking act unless_refused step answers run within new_picker read_within read_picker take_image
everything = tt
