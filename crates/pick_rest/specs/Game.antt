-- The end game on the code's values: what it has come to, and what its steps have done. Assumes nothing.
use Rattle.std.specs.Prelude.{ℕ, suc, ◌+◌, ◌-◌, ◌≤◌, ◌<◌, ◌≡◌, Bool, false, List, [], ◌∷◌, ◌++◌, length, get_or, take}
use Rattle.model.specs.Lists.{nth, each}
use Rattle.model.specs.State.{DownloadingPiece, Picker}
use Rattle.model.specs.Options.{end_game, busy_loops}
use Rattle.model.specs.list.Order.{Draws}
use Rattle.model.specs.pick.Blocks.{PickRequest, PickState, with_out, with_picker, flagged, piece_block}
use Rattle.model.specs.pick.Pick.{EndGame, end_game_try, end_game_step, pick_end_game, pick_rest}
use Rattle.memory_layout.specs.Changes.{partial_in}
use Rattle.pick_state.specs.declared.numbers.PickNumbers.{PickNumbers}
use Rattle.pick_state.specs.declared.request.PickRequest.{PickRequest as Request}
use Rattle.pick_state.specs.Requests.{request_of}
use Rattle.pick_state.specs.PickStates.{state_of, OutKept}
use Rattle.pick_state.specs.Room.{Worked}
use Rattle.pick_rest.specs.declared.game.Game.{Game}
use Rattle.pick_busy.specs.Full.{PlacesIn}

-- ---- numbers
-- so many draws used
unfoldable pub with_used : (used : ℕ) (t : PickNumbers) → PickNumbers
with_used used t =
    record { left = t.left; asked = t.asked; given = t.given; used = used; flags = t.flags; end = t.end; aside = t.aside }

-- the first n of a row are numbers of blocks
pub record BlocksIn (n : ℕ) (row : List ℕ) : Type 0 where
  pub few : n ≤ 256
  pub low : (j : ℕ) → j < n → get_or row j 0 < 256
  pub long : length row ≡ 512

-- the counter of the end game can take n steps more
pub record CountRoom (n : ℕ) (loops : List ℕ) : Type 0 where
  pub wide : length loops ≡ 7
  pub room : nth 0 loops busy_loops + n < 9223372036854775808

-- ---- a step
-- block j of piece i, found by a draw
unfoldable pub found_block : (i j : ℕ) (w : PickState) → PickState
found_block i j w =
    flagged end_game
    (with_picker w.picker (suc w.used) (with_out w.left w.contiguous (w.out ++ (piece_block i j ∷ [])) w))

-- the definition's game: the pick's state, and the partials at the places that are left
unfoldable pub game_of : (start : ℕ) (d : Picker) (t : PickNumbers) (many : ℕ) (found : Bool) (row out aside : List ℕ) (ignored : List Bool)
    (loops : List ℕ) → EndGame
game_of start d t many found row out aside ignored loops =
    record { work = state_of start d t out aside ignored loops; pieces = each (partial_in d) (take many row); found = found }

-- what a step leaves: the output as it was but for the block found, fewer places, places of the row that were there before
pub record Turned (t : PickNumbers) (many : ℕ) (g : Game) (row row' out out' : List ℕ) : Type 0 where
  pub kept : OutKept t g.t out out'
  pub few : g.t.end ≤ t.end + 1
  pub still : g.found ≡ false → g.t.end ≡ t.end
  pub fewer : g.found ≡ false → g.many ≡ many - 1
  pub most : g.many ≤ many
  pub long : length row' ≡ length row
  pub places : (live : ℕ) → PlacesIn live many row → PlacesIn live g.many row'

-- a partial of piece i at place k of the row was tried, with the blocks `js` for this peer, whatever stands beside
pub record Tried (draws : Draws) (k i : ℕ) (js : List ℕ) (t : PickNumbers) (many : ℕ) (g : Game) (row row' out out' : List ℕ) : Type 0 where
  pub is : (start : ℕ) (d : Picker) (aside : List ℕ) (ignored : List Bool) (loops : List ℕ) (p : DownloadingPiece) → p.piece ≡ i → start ≤ t.end
      → game_of start d g.t g.many g.found row' out' aside ignored loops
      ≡ end_game_try draws k p js (game_of start d t many false row out aside ignored loops)
  pub turned : Turned t many g row row' out out'
  pub used : g.t.used ≤ t.used + 1

-- a turn was made
pub record GameDid (draws : Draws) (q : Request) (d : Picker) (live : ℕ) (t : PickNumbers) (many : ℕ) (g : Game) (row row' out out' loops loops' : List ℕ)
    : Type 0 where
  pub is : (bytes : List ℕ) (start : ℕ) (aside : List ℕ) (ignored : List Bool) → start ≤ t.end
      → game_of start d g.t g.many g.found row' out' aside ignored loops'
      ≡ end_game_step draws (request_of q bytes) (game_of start d t many false row out aside ignored loops)
  pub turned : Turned t many g row row' out out'
  pub used : g.t.used ≤ t.used + 2
  pub counters : length loops' ≡ length loops
  pub counted : nth 0 loops' busy_loops ≡ nth 0 loops busy_loops + 1

-- the whole game, whatever stands beside
pub record EndGameDid (draws : Draws) (a : PickRequest) (d : Picker) (t r : PickNumbers) (out out' loops loops' : List ℕ) : Type 0 where
  pub worked : (aside : List ℕ) (ignored : List Bool) → Worked (pick_end_game draws a) d t r out aside ignored loops out' aside ignored loops'

-- the whole rest of the pick, whatever pieces are ignored
pub record RestDid (draws : Draws) (a : PickRequest) (d : Picker) (t r : PickNumbers) (out out' aside loops loops' : List ℕ) : Type 0 where
  pub worked : (ignored : List Bool) → Worked (pick_rest draws a) d t r out aside ignored loops out' aside ignored loops'
