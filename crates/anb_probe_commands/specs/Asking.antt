-- What the code's reading of the words stands for.
use Rattle.std.specs.Borrow.{Bor}
use Rattle.std.specs.Prelude.{ℕ, List, Option, Some, None}
use Rattle.anb_partner.specs.Trials.{target_words}
use Rattle.anb_probe_commands.specs.declared.words.ProbeWords.{ProbeWords}
use Rattle.anb_probe_commands.specs.declared.words.TryWords.{TryWords}
use Rattle.anb_probe_commands.specs.Words.{Probed, Trying, probed, trying}

abbrev pub folder_by : Option (Bor (List ℕ)) → Option (List ℕ)
folder_by None = None
folder_by (Some folder) = Some folder.now

abbrev pub trying_by : TryWords → Trying
trying_by words = trying words.all words.case words.limit (folder_by words.folder) (target_words words.target)

abbrev pub probing : ProbeWords → Probed
probing words = probed words.narration.now words.name.now words.values.now (trying_by words.trying)

abbrev pub probed_by : Option ProbeWords → Option Probed
probed_by None = None
probed_by (Some words) = Some (probing words)

abbrev pub tried_by : Option TryWords → Option Trying
tried_by None = None
tried_by (Some words) = Some (trying_by words)
