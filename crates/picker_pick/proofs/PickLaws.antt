-- The core of the public pick, arm by arm: refused for the memory, refused by the judge, done. Assumes nothing.
use Rattle.std.specs.Prelude.{Err, Ok, Result, IsErrAnd, ⊤}
use mathlib.Core.Path.{◌≡◌, refl, sym, ap, ap₂, subst, ◌∙◌}
use mathlib.Core.Bool.{Bool, true, false, not, ◌&&◌}
use mathlib.Core.List.{List}
use mathlib.Core.Option.{Option, none, some}
use Prim.Native.Nat.{ℕ, ◌+◌, ◌-◌, ◌%◌}
use native.Mathlib.Omega.{arith}
use lib.Dec.{eqb, ltb, leb}
use lib.IntN.{ℤ}
use lib.ListN.{length}
use borrow.Author.Tests.{leb-true, ltb-false, eqb-true, not-false}
use Rattle.types.specs.Piece.{number_of}
use Rattle.types.specs.declared.refusal.Refusal.{Refusal}
use Rattle.types.specs.declared.refusal.Refusal.TheVariants.{FewDraws, PickArguments, ShortOutput}
use Rattle.types.specs.Peer.{named_peer}
use Rattle.model.specs.Lists.{len, each}
use Rattle.model.specs.Bep3.{bitfield_bytes}
use Rattle.model.specs.State.{Picker, pieces_in}
use Rattle.model.specs.Options.{rarest_first, sequential}
use Rattle.model.specs.list.Order.{Draws}
use Rattle.model.specs.pick.Blocks.{PickRequest, option}
use Rattle.model.specs.pick.Pick.{pick_pieces}
use Rattle.model.specs.Calls.{do_pick_pieces, picked, answering, picking, lent_peer, lent_request, refuse_few_draws, bitfield_fits}
use Rattle.model.specs.Calls.{request_fits, refusal, act}
use Rattle.model.proofs.base.Truths.{and_left, and_right, four_true}
use Rattle.model.proofs.keep.KeepCalls.{check-none}
use Rattle.memory_records.specs.declared.edits.Edit.TheVariants.{Keep}
use Rattle.memory_records.specs.Rows.{live_records, records_in}
use Rattle.memory_layout.specs.declared.shape.Shape.{Shape}
use Rattle.memory_layout.specs.Decode.{head_word}
use Rattle.memory_layout.specs.Standing.{Changed, edit_records}
use Rattle.memory_layout.proofs.Meanings.{pieces_number}
use Rattle.memory_layout.proofs.BoundsLaws.{cells_kept_none}
use Rattle.check_partials.specs.Records.{CountsHeld}
use Rattle.memory_rows.specs.Lookup.{picker_in}
use Rattle.pick_state.specs.declared.request.PickRequest.{PickRequest as Request}
use Rattle.pick_state.specs.PickStates.{blocks_between}
use Rattle.pick_free.specs.Picking.{Picks}
use Rattle.pick_start.specs.Starting.{request_with}
use Rattle.pick_pieces.specs.declared.pieces.Picked.{Picked}
use Rattle.pick_pieces.specs.Whole.{PickRoom, loops_of, PickGave, PickLeft}
use Rattle.pick_judge.specs.declared.arguments.PickInput.{PickInput}
use Rattle.pick_judge.specs.Asking.{request_asked, request_numbers, PickJudged}
use Rattle.pick_judge.proofs.JudgeLaws.{many_each}
use Rattle.picker_calls.specs.Outcomes.{judged}
use Rattle.picker_calls.specs.Cores.{Listless, Stood, Admitted}
use Rattle.picker_calls.proofs.ListlessLaws.{listless}
use Rattle.picker_calls.proofs.CoreLaws.{keep_insert, stood_at, barred, denied, acted}
use Rattle.picker_output.specs.Picking.{not_picked, gave, pick_answer, OutputKept}
use Rattle.picker_pick.specs.Answers.{pick_outcome, PickCore}

-- ---- none of its refusals is 2
pick_listless : (request : PickRequest) (free : ℕ) (draws : Draws) → Listless (do_pick_pieces request free draws)
pick_listless request free draws = listless (do_pick_pieces request free draws) refl

-- ---- what is asked, and what the judge was shown
module _ (a : PickInput) (bytes suggestions : List ℕ) where
  -- a pick's request is lent with a peer of 64 bits
  lent_same : lent_request (request_asked a bytes suggestions) ≡ request_with (request_numbers a) bytes suggestions
  unfolding lent_request lent_peer request_asked request_with request_numbers
  lent_same = go a.has_peer
    where
      -- with a peer, or none
      made : (peer : Option ℕ) → PickRequest
      made peer =
          record {
            options = a.options.0;
            wanted = number_of a.num_blocks;
            contiguous = number_of a.prefer_contiguous_blocks;
            peers = number_of a.num_peers;
            peer = peer;
            bits = a.bits;
            bytes = bytes;
            suggestions = suggestions;
          }

      go : (b : Bool) → made (lent_peer (named_peer b a.peer)) ≡ made (named_peer b (a.peer % 18446744073709551616))
      go true = refl
      go false = refl

  refusal_same : (d : Picker) (free : ℕ) (draws : Draws)
      → refusal d (do_pick_pieces (request_with (request_numbers a) bytes suggestions) free draws)
      ≡ refusal d (do_pick_pieces (request_asked a bytes suggestions) free draws)
  unfolding refusal request_fits bitfield_fits option request_with request_asked request_numbers
  refusal_same d free draws = refl

-- ---- not refused
module _ (s : Shape) (d : Picker) (pieces : pieces_in d ≡ s.pieces) (q : Request) (bytes : List ℕ) (lent : List ℤ) (draws : Draws)
    (free : ℕ)
    (h : refusal d (do_pick_pieces (request_with q bytes (each number_of lent)) free draws) ≡ none) where
  fits : (request_fits d (request_with q bytes (each number_of lent)) ≡ true) × (ltb free (q.wanted + q.contiguous + 255) ≡ false)
  unfolding refusal refuse_few_draws request_with
  fits =
      let x = check-none _ FewDraws _ h in
      let y = check-none _ PickArguments _ x.1 in
      let z = check-none _ ShortOutput none y.1 in
      (not-false _ y.0, z.0)

  pub passed_room : (end long : ℕ) → free ≡ long - end → PickRoom q (length lent) end long
  unfolding request_fits request_with
  passed_room end long e =
      let r = request_with q bytes (each number_of lent) in
      let more = not (option rarest_first r && option sequential r) && bitfield_fits d r in
      let l = leb (len (each number_of lent)) 256 in
      let p = four_true (leb 1 q.wanted) (leb q.wanted 2048) (leb q.contiguous 2048) (leb q.peers 1000 && (l && more))
      fits.0 in
      let n = and_right (leb q.peers 1000) (l && more) p.3 in
      let w = leb-true 1 q.wanted p.0 in
      let f = ltb-false free (q.wanted + q.contiguous + 255) fits.1 in
      record {
        some = w;
        wanted = leb-true q.wanted 2048 p.1;
        contiguous = leb-true q.contiguous 2048 p.2;
        peers = leb-true q.peers 1000 (and_left (leb q.peers 1000) (l && more) p.3);
        suggestions = omega (arith, leb-true (len (each number_of lent)) 256 (and_left l more n), many_each lent);
        room = omega arith;
      }

  pub passed_bits : q.bits ≡ s.pieces
  unfolding request_fits bitfield_fits request_with
  passed_bits =
      let r = request_with q bytes (each number_of lent) in
      let one = not (option rarest_first r && option sequential r) in
      let l = leb (len (each number_of lent)) 256 in
      let p = four_true (leb 1 q.wanted) (leb q.wanted 2048) (leb q.contiguous 2048)
      (leb q.peers 1000 && (l && (one && bitfield_fits d r)))
      fits.0 in
      let n = and_right l (one && bitfield_fits d r) (and_right (leb q.peers 1000) (l && (one && bitfield_fits d r)) p.3) in
      let b = and_left (eqb q.bits (pieces_in d)) (eqb (len bytes) (bitfield_bytes q.bits)) (and_right one (bitfield_fits d r) n) in
      eqb-true q.bits (pieces_in d) b ∙ pieces

-- ---- the arms
-- a refusal, as `?` passes it on
pick_refused : (words cells rows : List ℕ) (lent : ℕ) (request : PickRequest) (draws : Draws) (start : ℕ) (out : List ℕ) (why : Refusal)
    → PickCore words cells rows lent request draws start out words cells out (not_picked why) → (z : Result Picked Refusal)
    → IsErrAnd z (λ x. x ≡ why) → PickCore words cells rows lent request draws start out words cells out (pick_outcome z)
pick_refused words cells rows lent request draws start out why h (Err y) k =
    subst (λ (x : Refusal). PickCore words cells rows lent request draws start out words cells out (not_picked x)) (sym k) h
pick_refused words cells rows lent request draws start out why h (Ok p) k = absurd k

module _ (words cells rows counts : List ℕ) (lent : ℕ) (v : Result Shape Refusal) (g : Admitted words cells rows counts lent v) where
  -- refused for the memory
  pub pick_barred : (why : Refusal) → v ≡ Err why → (request : PickRequest) (draws : Draws) (start : ℕ) (out : List ℕ)
      → (z : Result Picked Refusal) → IsErrAnd z (λ x. x ≡ why)
      → PickCore words cells rows lent request draws start out words cells out (pick_outcome z)
  unfolding pick_answer OutputKept
  pick_barred why e request draws start out = pick_refused words cells rows lent request draws start out why (record {
    done = λ partials l r. record {
      called = ((barred words cells rows counts lent v g why e (do_pick_pieces request (length out - start) draws)
          (pick_listless request (length out - start) draws) (Err why) refl).done partials l r).1;
      output = refl;
    };
  })

  module _ (s : Shape) (at : v ≡ Ok s) (a : PickInput) (bytes : List ℕ) (given : List ℤ) (draws : Draws) (out : List ℕ)
      (q : Request) (eq : q ≡ request_numbers a) (free : ℕ) (ef : free ≡ length out - a.end) (j : Result ⊤ Refusal)
      (x : PickJudged s (do_pick_pieces (request_with q bytes (each number_of given)) free draws) j) where
    abbrev d : Picker
    d = picker_in (head_word words 7) rows words cells

    abbrev request : PickRequest
    request = request_asked a bytes (each number_of given)

    pieces : pieces_in d ≡ s.pieces
    pieces = pieces_number s (records_in (head_word words 7) rows) words cells
        (stood_at words cells rows counts lent v g s at).stands.bounds

    judged_is : judged j ≡ refusal d (do_pick_pieces request (length out - a.end) draws)
    judged_is =
        x.is d pieces
        ∙ ap₂ (λ (p : Request) (n : ℕ). refusal d (do_pick_pieces (request_with p bytes (each number_of given)) n draws)) eq ef
        ∙ refusal_same a bytes (each number_of given) d (length out - a.end) draws

    -- refused by the judge
    pub pick_denied : (why : Refusal) → j ≡ Err why → (z : Result Picked Refusal) → IsErrAnd z (λ x. x ≡ why)
        → PickCore words cells rows lent request draws a.end out words cells out (pick_outcome z)
    unfolding pick_answer OutputKept
    pick_denied why e = pick_refused words cells rows lent request draws a.end out why (record {
      done = λ partials l r. record {
        called = ((denied s lent rows counts words cells (stood_at words cells rows counts lent v g s at)
            (do_pick_pieces request (length out - a.end) draws) (pick_listless request (length out - a.end) draws) j judged_is why e
            (Err why) refl).done partials l r).1;
        output = refl;
      };
    })

    module _ (e : j ≡ (Ok tt)) (live : ℕ) (many : live ≡ live_records words) where
      stood : Stood s (head_word words 7) lent rows counts words cells
      stood = stood_at words cells rows counts lent v g s at

      same : live ≡ head_word words 7
      same = many ∙ sym stood.rowed

      none_met : refusal d (do_pick_pieces (request_with q bytes (each number_of given)) free draws) ≡ none
      none_met = sym (x.is d pieces) ∙ ap judged e

      -- what the pick asks
      pub pick_asks : Picks s live rows words cells q
      pick_asks =
          subst (λ (n : ℕ). Picks s n rows words cells q) (sym same) (record {
            asked = record { stands = stood.stands; many = refl; wide = stood.long_rows };
            bits = passed_bits s d pieces q bytes given draws free none_met;
          })

      pub pick_counts : CountsHeld (picker_in live rows words cells) live counts × (length counts ≡ 1536)
      pick_counts =
          (subst (λ (n : ℕ). CountsHeld (picker_in n rows words cells) n counts) (sym same) stood.counted, stood.long_counts)

      pub pick_room : PickRoom q (length given) a.end (length out)
      pick_room = passed_room s d pieces q bytes given draws free none_met a.end (length out) ef

      -- done
      module _ (words' out' : List ℕ) (r : Picked)
          (y : PickGave (pick_pieces draws (picker_in live rows words cells) (request_with q bytes (each number_of given)))
          (picker_in live rows words' cells) a.end out out' r)
          (z : PickLeft s live rows words words' cells q) where
        gave_is : PickGave (pick_pieces draws d (lent_request request)) (picker_in (head_word words 7) rows words' cells) a.end out out' r
        gave_is =
            subst (λ (p : PickRequest). PickGave (pick_pieces draws d p) (picker_in (head_word words 7) rows words' cells) a.end out out' r)
            (ap (λ (p : Request). request_with p bytes (each number_of given)) eq ∙ sym (lent_same a bytes (each number_of given)))
            (subst (λ (n : ℕ). PickGave (pick_pieces draws (picker_in n rows words cells) (request_with q bytes (each number_of given)))
            (picker_in n rows words' cells) a.end out out' r) same y)

        picks_is : Picks s (head_word words 7) rows words' cells q
        picks_is = subst (λ (n : ℕ). Picks s n rows words' cells q) same z.picks

        changed : Changed s (pick_pieces draws d (lent_request request)).picker words cells
            (edit_records Keep (records_in (head_word words 7) rows)) words' cells
        unfolding edit_records
        changed =
            let b = picks_is.asked.stands in
            record {
              is = gave_is.picker;
              bounds = b.bounds;
              plain = b.plain;
              ranks = b.ranks;
              words_kept = z.words_kept;
              cells_kept = cells_kept_none s cells;
            }

        answers : act d (do_pick_pieces request (length out - a.end) draws)
            ≡ answering (picked (blocks_between a.end r.end out') r.flags (loops_of r) r.used)
            (pick_pieces draws d (lent_request request)).picker
        unfolding act picking
        answers =
            let w = pick_pieces draws d (lent_request request) in
            ap₂ (λ bs f. answering (picked bs f w.loops w.used) w.picker) (sym gave_is.blocks) (sym gave_is.flags)
            ∙ ap₂ (λ l u. answering (picked (blocks_between a.end r.end out') r.flags l u) w.picker) (sym gave_is.loops)
            (sym gave_is.used)

        pub pick_did : PickCore words cells rows lent request draws a.end out words' cells out'
            (gave r.end r.flags (loops_of r) r.used)
        unfolding pick_answer OutputKept
        pick_did = record {
          done = λ partials l k. record {
            called = ((acted s lent rows counts words cells stood (do_pick_pieces request (length out - a.end) draws)
                (pick_listless request (length out - a.end) draws) (sym judged_is ∙ ap judged e) live many Keep (λ f i. keep_insert f i)
                words' cells
                (picked (blocks_between a.end r.end out') r.flags (loops_of r) r.used)
                (pick_pieces draws d (lent_request request)).picker
                answers changed).done partials l k).1;
            output = record { rises = y.rises; within = y.within; long = y.long; others = y.others };
          };
        }
