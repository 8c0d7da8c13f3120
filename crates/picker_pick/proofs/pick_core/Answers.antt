-- `pick_core` meets its contract. Assumes nothing.
use mathlib.Core.Path.{refl}
use borrow.Author.Rules.{rules}
use Rattle.types.specs.Piece.{number_of}
use Rattle.model.specs.Lists.{each}
use Rattle.pick_judge.specs.Asking.{request_asked}
use Rattle.picker_pick.proofs.PickLaws.{pick_barred, pick_denied, pick_asks, pick_counts, pick_room, pick_did}
use Rattle.picker_pick.proofs.pick_core.Goals as goal

pub pick_pieces-requires : goal.pick_pieces-requires
pick_pieces-requires c = let a = c.args in
    let k = c.admit in
    let q = c.request-q in
    let f = c.places_free-free in
    let j = c.judge_pick in
    let n = c.live_records-live in
    let at = c.in_ok-s.was in
    let e = c.in_ok-judge_pick.was in record {
      picks = pick_asks _ _ _ _ _ k.result k.ensures _ at a.a a.bytes.now a.suggestions.now a.draws.now a.out.now q.result q.ensures
          f.result f.ensures j.result j.ensures e n.result n.ensures;
      counts_held = pick_counts _ _ _ _ _ k.result k.ensures _ at a.a a.bytes.now a.suggestions.now a.draws.now a.out.now q.result
          q.ensures f.result f.ensures j.result j.ensures e n.result n.ensures;
      pick_room = pick_room _ _ _ _ _ k.result k.ensures _ at a.a a.bytes.now a.suggestions.now a.draws.now a.out.now q.result
          q.ensures f.result f.ensures j.result j.ensures e n.result n.ensures;
    }

pub returns-in_err-s : goal.returns-in_err-s
returns-in_err-s c = let a = c.args in
    let k = c.admit in
    pick_barred _ _ _ _ _ k.result k.ensures _ c.in_err-s.was (request_asked a.a a.bytes.now (each number_of a.suggestions.now))
    a.draws.now a.a.end a.out.now c.from_residual.result c.from_residual.ensures.1

pub returns-in_err-judge_pick : goal.returns-in_err-judge_pick
returns-in_err-judge_pick c = let a = c.args in
    let k = c.admit in
    let q = c.request-q in
    let f = c.places_free-free in
    let j = c.judge_pick in
    pick_denied _ _ _ _ _ k.result k.ensures _ c.in_ok-s.was a.a a.bytes.now a.suggestions.now a.draws.now a.out.now
    q.result q.ensures f.result f.ensures j.result j.ensures _ c.in_err-judge_pick.was c.from_residual-in_err-judge_pick.result
    c.from_residual-in_err-judge_pick.ensures.1

pub shape_of-words : goal.shape_of-words
shape_of-words c = c.pick_pieces.ensures.pick_left.words_kept.long

pub shape_of-out : goal.shape_of-out
shape_of-out c = c.pick_pieces.ensures.pick_gave.long

pub returns : goal.returns
returns c = let a = c.args in
    let k = c.admit in
    let q = c.request-q in
    let f = c.places_free-free in
    let j = c.judge_pick in
    let n = c.live_records-live in
    let p = c.pick_pieces in
    pick_did _ _ _ _ _ k.result k.ensures _ c.in_ok-s.was a.a a.bytes.now a.suggestions.now a.draws.now a.out.now
    q.result q.ensures f.result f.ensures j.result j.ensures c.in_ok-judge_pick.was n.result n.ensures _ _ p.result
    p.ensures.pick_gave p.ensures.pick_left
