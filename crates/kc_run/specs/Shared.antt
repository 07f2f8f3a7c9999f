-- What commits of passes make of their own lists.
use Rattle.std.specs.Prelude.{Bool, true, false}
use Rattle.kc_script_runs.specs.Looks.{GivesBehindLooks}
use Rattle.kc_script_runs.specs.Threads.{CommitGives, GivesOne}

-- a commit adds one entry; on a store where looks enter too, it adds looks of its transaction and then the entry
abbrev pub commit_gives : Bool → CommitGives
commit_gives true = GivesBehindLooks
commit_gives false = GivesOne
