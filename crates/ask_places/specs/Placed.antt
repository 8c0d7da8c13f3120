-- Document 01's values of what stands at a place. Assumes nothing.
use Rattle.model.specs.ask.Questions.{Reply, one, nothing, stale_list}
use Rattle.ask_places.specs.declared.Placed.{Placed as Answer}
use Rattle.ask_places.specs.declared.Placed.TheVariants.{Number, Nothing, Stale}

abbrev pub placed_reply : (r : Answer) → Reply
placed_reply (Number n) = one n
placed_reply Nothing = nothing
placed_reply Stale = stale_list
