-- One turn of the end game: a draw, the block found, a piece that goes. Assumes nothing.
use mathlib.Core.Path.{◌≡◌, refl, sym, ap, ◌∙◌}
use mathlib.Core.Bool.{true, false, true≢false}
use mathlib.Core.List.{List, [], ◌∷◌, ◌++◌}
use Prim.Native.Nat.{ℕ, zero, suc, ◌+◌, ◌-◌, ◌*◌, ◌≤◌, ◌<◌}
use native.Mathlib.Nat.{mod-lt}
use native.Mathlib.Numerals.{add-one}
use native.Mathlib.Decide.{ℕ_discrete}
use native.Mathlib.Omega.{arith}
use lib.ListN.{length, get_or, set, take, length-set}
use lib.Seq.{get_or-set_same, get_or-set_other, get_or-take, length-take-le, take-take, take-set-lt}
use Rattle.types.specs.Bits.{union}
use Rattle.model.specs.Lists.{nth, set_nth, len, each, last_or}
use Rattle.model.specs.State.{DownloadingPiece, Picker}
use Rattle.model.specs.Options.{end_game, busy_loops}
use Rattle.model.specs.list.Order.{Draws, draw}
use Rattle.model.specs.pick.Blocks.{PieceBlock, with_out, with_picker, flagged, steps}
use Rattle.model.specs.pick.Pick.{EndGame, no_partial, swap_remove, busy_blocks, end_game_try, end_game_step}
use Rattle.memory_layout.specs.Changes.{partial_in}
use Rattle.memory_records.specs.Rows.{row_at}
use Rattle.memory_layout.specs.declared.shape.Shape.{Shape}
use Rattle.memory_rows.specs.Lookup.{picker_in}
use Rattle.ask_picker.specs.Asked.{Asked}
use Rattle.pick_partial.proofs.PartialLaws.{row_piece, this-piece}
use Rattle.pick_state.specs.declared.numbers.PickNumbers.{PickNumbers}
use Rattle.pick_state.specs.declared.request.PickRequest.{PickRequest}
use Rattle.pick_state.specs.Requests.{request_of}
use Rattle.pick_state.specs.PickStates.{block_from, blocks_between, contiguous_of, with_flags, state_of, OutDid}
use Rattle.pick_state.proofs.TakeLaws.{block_word, between_more}
use Rattle.pick_state.proofs.DidLaws.{kept_none}
use Rattle.pick_rest.specs.declared.game.Game.{Game}
use Rattle.pick_busy.specs.Busy.{BusyIn}
use Rattle.pick_busy.specs.Full.{PlacesIn}
use Rattle.pick_rest.specs.Game.{with_used, BlocksIn, found_block, game_of, Tried, GameDid}
use Rattle.pick_busy.proofs.ListLaws.{each-take, each-set, each-length, each_at}

-- ---- draws
pub draw_low : (draws : Draws) (used limit n : ℕ) → n ≡ draw draws used limit → n < limit + 1
unfolding draw
draw_low draws used limit n e = let l = mod-lt (nth 0 draws used) {m = suc limit} (omega arith) in omega arith

-- the place drawn is one of the row's
pub draw_in : (draws : Draws) (used many k : ℕ) → 0 < many → k ≡ draw draws used (many - 1) → k < many
draw_in draws used many k h e = let l = draw_low draws used (many - 1) k e in omega arith

pub place_in : (live many : ℕ) (row : List ℕ) → PlacesIn live many row → (k : ℕ) → k < many → (place : ℕ) → place ≡ get_or row k 0 → place < live
place_in live many row p k h place e = let l = p.low k h in omega arith

-- the piece of its row
module _ (s : Shape) (live : ℕ) (rows words cells : List ℕ) (g : Asked s live rows words cells) (place : ℕ) (h : place < live) (i : ℕ)
    (e : i ≡ get_or rows place 0) where
  pub piece_of : (partial_in (picker_in live rows words cells) place).piece ≡ i
  unfolding row_at
  piece_of = this-piece s live rows words cells g place h ∙ sym e

  pub piece_low : i < 4096
  unfolding row_at
  piece_low = let a = row_piece s live rows words cells g place h in let b = g.stands.bounds.spans.in_words.sizes.many in omega arith

-- ---- the block found
pub found_did : (t r : PickNumbers) (out : List ℕ) (i j w : ℕ) → t.end < length out → j < 256 → w ≡ i * 65536 + j → r.left ≡ t.left
    → r.asked ≡ t.asked → r.given ≡ t.given → r.used ≡ t.used + 1 → r.flags ≡ union t.flags end_game → r.end ≡ t.end + 1
    → r.aside ≡ t.aside → OutDid (found_block i j) 1 t r out (set out t.end w)
unfolding state_of found_block flagged with_picker with_out contiguous_of
found_did t r out i j w o h ew el ea eg eu ef ee es = record {
  is = λ start d aside ignored loops k. λ m. record {
    picker = d;
    used = (eu ∙ add-one t.used) m;
    left = el m;
    contiguous = record { asked = ea m; given = eg m };
    out = (ap (λ (e : ℕ). blocks_between start e (set out t.end w)) ee ∙ (between_more start t.end out w k o
        ∙ ap (λ (x : PieceBlock). blocks_between start t.end out ++ (x ∷ [])) (ap block_from ew ∙ block_word i j (omega arith)))) m;
    backup = blocks_between 0 (es m) aside;
    ignored = ignored;
    flags = ef m;
    loops = loops;
  };
  kept = record {
    rises = omega arith;
    long = length-set out t.end w;
    others = λ k n. get_or-set_other out t.end k w 0 (λ e. n (omega arith) (omega arith));
  };
  few = omega arith;
  given = omega arith;
}

pub flags_are : (t u : PickNumbers) → u ≡ with_flags (union t.flags end_game) t → u.flags ≡ union t.flags end_game
unfolding with_flags
flags_are t u e = ap (λ (v : PickNumbers). v.flags) e

-- ---- a piece that goes
last_from : {A : Type 0} (x : A) (xs : List A) (m : ℕ) (d : A) → length xs ≡ m → last_or x xs ≡ get_or (x ∷ xs) m d
unfolding last_or
last_from x [] zero d e = refl
last_from x [] (suc m) d e = absurd (omega arith)
last_from x (y ∷ ys) zero d e = absurd (omega arith)
last_from x (y ∷ ys) (suc m) d e = last_from y ys m d (omega arith)

last_is : {A : Type 0} (d : A) (l : List A) (m : ℕ) → length l ≡ suc m → last_or d l ≡ get_or l m d
unfolding last_or
last_is d [] m e = absurd (omega arith)
last_is d (x ∷ xs) m e = last_from x xs m d (omega arith)

module _ (d : Picker) (row : List ℕ) (many k : ℕ) (h : k < many) (l : many ≤ length row) where
  abbrev these : List DownloadingPiece
  these = each (partial_in d) (take many row)

  pub these_long : len these ≡ many
  unfolding len
  these_long = each-length (partial_in d) (take many row) ∙ length-take-le many row l

  pub these_at : nth no_partial these k ≡ partial_in d (get_or row k 0)
  unfolding nth
  these_at =
      let e = length-take-le many row l in
      each_at (partial_in d) (take many row) k no_partial (omega arith) ∙ ap (partial_in d) (get_or-take many row k 0 h)

  these_last : last_or no_partial these ≡ partial_in d (get_or row (many - 1) 0)
  unfolding len
  these_last =
      let e = length-take-le many row l in
      let z : length these ≡ suc (many - 1) = these_long ∙ (omega arith) in
      last_is no_partial these (many - 1) z ∙ each_at (partial_in d) (take many row) (many - 1) no_partial (omega arith)
      ∙ ap (partial_in d) (get_or-take many row (many - 1) 0 (omega arith))

  swap_places : each (partial_in d) (take (many - 1) (set row k (get_or row (many - 1) 0))) ≡ swap_remove k these
  unfolding swap_remove set_nth
  swap_places =
      let x = get_or row (many - 1) 0 in
      ap (each (partial_in d)) (sym (take-take (many - 1) many (set row k x) (omega arith)) ∙ ap (take (many - 1)) (take-set-lt many row k x h))
      ∙ each-take (partial_in d) (many - 1) (set (take many row) k x)
      ∙ ap (take (many - 1)) (each-set (partial_in d) (take many row) k x)
      ∙ (λ m. take (sym these_long m - 1) (set these k (sym these_last m)))

pub try_none : (draws : Draws) (k i : ℕ) (js : List ℕ) → js ≡ [] → (t : PickNumbers) (many : ℕ) (row out : List ℕ) → k < many → many ≤ 512
    → length row ≡ 512
    → Tried draws k i js t many (record { t = t; many = many - 1; found = false }) row (set row k (get_or row (many - 1) 0)) out out
unfolding game_of end_game_try
try_none draws k i js e t many row out h l w = record {
  is = λ start d aside ignored loops p f s. rw e (λ m. record {
    work = state_of start d t out aside ignored loops;
    pieces = swap_places d row many k h (omega arith) m;
    found = false;
  });
  turned = record {
    kept = kept_none t out;
    few = omega arith;
    still = λ f. refl;
    fewer = λ f. refl;
    most = omega arith;
    long = length-set row k (get_or row (many - 1) 0);
    places = λ live g. record {
      few = omega arith;
      low = λ j b. elim (ℕ_discrete j k) [
        | yes q ↦ (let x = g.low (many - 1) (omega arith) in
            omega (arith, ap (λ (n : ℕ). get_or (set row k (get_or row (many - 1) 0)) n 0) q, get_or-set_same row k (get_or row (many - 1) 0) 0 (omega arith)))
        | no q ↦ (let x = g.low j (omega arith) in omega (arith, get_or-set_other row k j (get_or row (many - 1) 0) 0 q))
      ];
      long = length-set row k (get_or row (many - 1) 0) ∙ g.long;
    };
  };
  used = omega arith;
}

pub these_number : (d : Picker) (row : List ℕ) (many : ℕ) → many ≤ length row → len (each (partial_in d) (take many row)) ≡ many
unfolding len
these_number d row many l = each-length (partial_in d) (take many row) ∙ length-take-le many row l

-- ---- one of a piece's blocks drawn
some_tried : (draws : Draws) (k : ℕ) (p : DownloadingPiece) (js : List ℕ) (n : ℕ) → len js ≡ n → 0 < n → (game : EndGame)
    → end_game_try draws k p js game
    ≡ record { work = found_block p.piece (nth 0 js (draw draws game.work.used (n - 1))) game.work; pieces = game.pieces; found = true }
unfolding end_game_try found_block len
some_tried draws k p [] n e h game = absurd (omega arith)
some_tried draws k p (j ∷ js) n e h game =
    let z : length js ≡ n - 1 = omega arith in
    λ m. record {
      work = found_block p.piece (nth 0 (j ∷ js) (draw draws game.work.used (z m))) game.work;
      pieces = game.pieces;
      found = true;
    }

chosen : (blocks : List ℕ) (n m : ℕ) → m < n → nth 0 (take n blocks) m ≡ get_or blocks m 0
unfolding nth
chosen blocks n m h = get_or-take n blocks m 0 h

long_is : (blocks : List ℕ) (n : ℕ) → n ≤ length blocks → len (take n blocks) ≡ n
unfolding len
long_is blocks n h = length-take-le n blocks h

pub try_some : (draws : Draws) (k i : ℕ) (blocks : List ℕ) (n : ℕ) → BlocksIn n blocks → 0 < n → (t : PickNumbers) (many : ℕ) (row out out' : List ℕ)
    → (at : ℕ) → at ≡ draw draws t.used (n - 1) → (j : ℕ) → j ≡ get_or blocks at 0 → (r : PickNumbers) → OutDid (found_block i j) 1 t r out out'
    → r.used ≤ t.used + 1 → Tried draws k i (take n blocks) t many (record { t = r; many = many; found = true }) row row out out'
unfolding game_of state_of
try_some draws k i blocks n g h t many row out out' at ea j ej r x u = record {
  is = λ start d aside ignored loops p f s.
      let a = g.few in
      let b = g.long in
      let w = state_of start d t out aside ignored loops in
      let l = draw_low draws t.used (n - 1) at ea in
      let c : nth 0 (take n blocks) at ≡ j = chosen blocks n at (omega arith) ∙ sym ej in
      sym (some_tried draws k p (take n blocks) n (long_is blocks n (omega arith)) h (game_of start d t many false row out aside ignored loops)
      ∙ (λ m. record {
        work = found_block (f m) ((ap (nth 0 (take n blocks)) (sym ea) ∙ c) m) w;
        pieces = each (partial_in d) (take many row);
        found = true;
      }) ∙ (λ m. record {
        work = sym (x.is start d aside ignored loops s) m;
        pieces = each (partial_in d) (take many row);
        found = true;
      }));
  turned = record {
    kept = x.kept;
    few = x.few;
    still = λ f. absurd (true≢false f);
    fewer = λ f. absurd (true≢false f);
    most = omega arith;
    long = refl;
    places = λ live p. p;
  };
  used = u;
}

counters_long : (loops loops' : List ℕ) → loops' ≡ set_nth busy_loops (nth 0 loops busy_loops + 1) loops → length loops' ≡ length loops
unfolding set_nth
counters_long loops loops' e = ap length e ∙ length-set loops busy_loops (nth 0 loops busy_loops + 1)

counters_more : (loops loops' : List ℕ) → busy_loops < length loops → loops' ≡ set_nth busy_loops (nth 0 loops busy_loops + 1) loops
    → nth 0 loops' busy_loops ≡ nth 0 loops busy_loops + 1
unfolding set_nth nth
counters_more loops loops' h e =
    ap (λ (l : List ℕ). get_or l busy_loops 0) e ∙ get_or-set_same loops busy_loops (get_or loops busy_loops 0 + 1) 0 h

pub used-end : (t u : PickNumbers) → u ≡ with_used (t.used + 1) t → u.end ≡ t.end
unfolding with_used
used-end t u e = ap (λ (v : PickNumbers). v.end) e

pub used-used : (t u : PickNumbers) → u ≡ with_used (t.used + 1) t → u.used ≡ t.used + 1
unfolding with_used
used-used t u e = ap (λ (v : PickNumbers). v.used) e

-- ---- a turn
pub step_did : (draws : Draws) (q : PickRequest) (d : Picker) (live : ℕ) (t : PickNumbers) (many : ℕ) (row out loops : List ℕ) → 0 < many
    → PlacesIn live many row → busy_loops < length loops → (k : ℕ) → k ≡ draw draws t.used (many - 1) → (place : ℕ) → place ≡ get_or row k 0
    → (i : ℕ) → (partial_in d place).piece ≡ i → (n : ℕ) (blocks : List ℕ) → BusyIn q (partial_in d place) n blocks → (loops' : List ℕ)
    → loops' ≡ set_nth busy_loops (nth 0 loops busy_loops + 1) loops → (u : PickNumbers) → u ≡ with_used (t.used + 1) t
    → (g : Game) (row' out' : List ℕ) → Tried draws k i (take n blocks) u many g row row' out out'
    → GameDid draws q d live t many g row row' out out' loops loops'
unfolding game_of end_game_step state_of with_picker steps with_used contiguous_of
step_did draws q d live t many row out loops some pl wide k ek place ep i ei n blocks b loops' el u eu g row' out' x =
    let low = draw_low draws t.used (many - 1) k ek in
    let pf = pl.few in
    let pw = pl.long in
    let ee : u.end ≡ t.end = ap (λ (v : PickNumbers). v.end) eu in
    let us : u.used ≡ t.used + 1 = ap (λ (v : PickNumbers). v.used) eu in
    let z = x.turned in
    record {
      is = λ bytes start aside ignored s.
          let a = request_of q bytes in
          let ds = each (partial_in d) (take many row) in
          let K : k ≡ draw draws t.used (len ds - 1) =
          ek ∙ ap (λ (m : ℕ). draw draws t.used (m - 1)) (sym (these_long d row many k (omega arith) (omega arith))) in
          let D : partial_in d place ≡ nth no_partial ds (draw draws t.used (len ds - 1)) =
          ap (partial_in d) ep ∙ sym (these_at d row many k (omega arith) (omega arith)) ∙ ap (nth no_partial ds) K in
          let J : take n blocks ≡ busy_blocks a (nth no_partial ds (draw draws t.used (len ds - 1))) = b.is bytes ∙ ap (busy_blocks a) D in
          x.is start d aside ignored loops' (partial_in d place) ei (omega arith)
          ∙ (λ m. end_game_try draws k (partial_in d place) (take n blocks) (game_of start d (eu m) many false row out aside ignored loops'))
          ∙ (λ m. end_game_try draws (K m) (D m) (J m) (record {
            work = record {
              picker = d;
              used = add-one t.used m;
              left = t.left;
              contiguous = contiguous_of t;
              out = blocks_between start t.end out;
              backup = blocks_between 0 t.aside aside;
              ignored = ignored;
              flags = t.flags;
              loops = el m;
            };
            pieces = ds;
            found = false;
          }));
      turned = record {
        kept = record {
          rises = let r = z.kept.rises in omega arith;
          long = z.kept.long;
          others = λ j o. z.kept.others j (λ v w. o (omega arith) w);
        };
        few = let r = z.few in omega arith;
        still = λ f. z.still f ∙ ee;
        fewer = z.fewer;
        most = z.most;
        long = z.long;
        places = z.places;
      };
      used = let r = x.used in omega arith;
      counters = counters_long loops loops' el;
      counted = counters_more loops loops' wide el;
    }
