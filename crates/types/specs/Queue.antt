-- The queues: the number of each, the queue that has a number, and the turn from and to the reverse ones. Assumes nothing.
use Rattle.std.specs.Prelude.{ℕ, Bool, true, false, List, [], ◌∷◌, None, Option, Some}
use Rattle.types.specs.Numbers.{case_with}
use Rattle.types.specs.declared.queue.DownloadQueue.{DownloadQueue}
use Rattle.types.specs.declared.queue.DownloadQueue.TheVariants.{Downloading, Full, Finished, ZeroPrio, Open, DownloadingReverse}
use Rattle.types.specs.declared.queue.DownloadQueue.TheVariants.{FullReverse}

-- the number that an image holds for each queue
abbrev pub queue_number : DownloadQueue → ℕ
queue_number Downloading = 0
queue_number Full = 1
queue_number Finished = 2
queue_number ZeroPrio = 3
queue_number Open = 4
queue_number DownloadingReverse = 5
queue_number FullReverse = 6

-- all seven
abbrev pub queues : List DownloadQueue
queues = Downloading ∷ Full ∷ Finished ∷ ZeroPrio ∷ Open ∷ DownloadingReverse ∷ FullReverse ∷ []

-- the queue without its direction
abbrev pub unreverse : DownloadQueue → DownloadQueue
unreverse Downloading = Downloading
unreverse Full = Full
unreverse Finished = Finished
unreverse ZeroPrio = ZeroPrio
unreverse Open = Open
unreverse DownloadingReverse = Downloading
unreverse FullReverse = Full

-- Downloading and Full become their reverse ones, and any other stays
abbrev pub make_reverse : DownloadQueue → DownloadQueue
make_reverse Downloading = DownloadingReverse
make_reverse Full = FullReverse
make_reverse Finished = Finished
make_reverse ZeroPrio = ZeroPrio
make_reverse Open = Open
make_reverse DownloadingReverse = DownloadingReverse
make_reverse FullReverse = FullReverse

-- the two reverse ones
abbrev pub is_reverse : DownloadQueue → Bool
is_reverse Downloading = false
is_reverse Full = false
is_reverse Finished = false
is_reverse ZeroPrio = false
is_reverse Open = false
is_reverse DownloadingReverse = true
is_reverse FullReverse = true

-- every queue but Open
abbrev pub is_downloading : DownloadQueue → Bool
is_downloading Downloading = true
is_downloading Full = true
is_downloading Finished = true
is_downloading ZeroPrio = true
is_downloading Open = false
is_downloading DownloadingReverse = true
is_downloading FullReverse = true

-- the queue that has a number, if any
unfoldable pub queue_with_number : ℕ → Option DownloadQueue
queue_with_number = case_with queue_number Some None queues
