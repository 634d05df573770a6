-- What the code's reading of the words stands for.
use Rattle.std.specs.Borrow.{Bor}
use Rattle.std.specs.Prelude.{ℕ, List, [], ◌∷◌, Option, Some, None}
use Rattle.anb_stage_commands.specs.declared.words.Behind.{Behind}
use Rattle.anb_stage_commands.specs.declared.words.StageRecordWords.{StageRecordWords}
use Rattle.anb_stage_commands.specs.declared.words.StageWords.{StageWords}
use Rattle.anb_stage.specs.Words.{asked_lists}
use Rattle.anb_stage_commands.specs.Scenes.{Scene}
use Rattle.anb_stage_commands.specs.declared.scene.Scene as declared
use Rattle.anb_stage_commands.specs.Words.{Cast, Options, Staged, StagedInto, cast}

-- each three words are a flag, a role and a program
abbrev pub casts_of : List (List ℕ) → List Cast
casts_of (flag ∷ role ∷ program ∷ words) = cast role program ∷ casts_of words
casts_of words = []

abbrev pub behind : Behind → Options
behind words = record { casts = casts_of words.casts.now; limit = words.limit }

abbrev pub behind_by : Option Behind → Option Options
behind_by None = None
behind_by (Some words) = Some (behind words)

abbrev pub text_by : Option (Bor (List ℕ)) → Option (List ℕ)
text_by None = None
text_by (Some text) = Some text.now

abbrev pub staged : StageWords → Staged
staged words = record { narration = words.narration.now; values = words.values.now; casts = casts_of words.casts.now; limit = words.limit }

abbrev pub staged_by : Option StageWords → Option Staged
staged_by None = None
staged_by (Some words) = Some (staged words)

abbrev pub staged_into_by : Option StageRecordWords → Option StagedInto
staged_into_by None = None
staged_into_by (Some words) = Some (record { staged = staged words.stage; folder = words.folder.now })

abbrev pub scene_of : Option ℕ → declared.Scene → Scene
scene_of limit scene = record { protocol = scene.protocol; asked = asked_lists limit scene.words.items }
