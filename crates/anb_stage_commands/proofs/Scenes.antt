-- What is asked of all children, role by role.
use Rattle.std.proofs.Common.{◌≡◌, ◌<◌, ◌+◌, ℕ, zero, suc, Bool, true, false, List, [], ◌∷◌, ◌++◌, length, drop, get_or, Option, Some, None, refl, sym, ap, ◌∙◌, inl, arith, append_assoc}
use Rattle.std.specs.Prelude.{if◌then◌else◌}
use Rattle.anb_base.specs.Moves.{Rose}
use Rattle.anb_command.proofs.Chains.{told_map}
use Rattle.std.specs.Option.{option_or}
use Rattle.std.proofs.lemmas.List.{length-map}
use Rattle.anb_lemmas.proofs.Lists.{drop_next}
use Rattle.anb_protocol.specs.Protocols.{ProtocolValue}
use Rattle.anb_protocol.specs.Texts.{known_names, known_texts}
use Rattle.anb_stage.specs.Words.{asked_by, asked_lists}
use Rattle.anb_stage.specs.declared.words.ChildWords.{ChildWords}
use Rattle.anb_status.specs.declared.status.Status.{Status}
use Rattle.anb_values.specs.declared.fitted.Fitted.{Fitted}
use Rattle.anb_command.specs.Fetches.{Files, IfTold, IsOneOf}
use Rattle.anb_command.specs.Files.{ValuesInFile}
use Rattle.anb_command.specs.Steps.{IsFailure, refused}
use Rattle.anb_command.proofs.Failing.{IsFailure-map}
use Rattle.anb_values_commands.specs.RoleValuesCommand.{OwnIs, first_long, own, own_text}
use Rattle.anb_stage_commands.specs.Scenes.{AreShort, SceneBy, long_from, words_from}
use Rattle.anb_stage_commands.specs.Words.{Staged, asked_for, names_file, own_files, words_for}

nothing : {A : Type 0} (l : List A) → l ++ [] ≡ l
nothing [] = refl
nothing (x ∷ l) = ap (λ r. x ∷ r) (nothing l)

drop_all : {A : Type 0} (l : List A) → drop (length l) l ≡ []
drop_all [] = refl
drop_all (x ∷ l) = drop_all l

-- as many lists of words as roles
pub count_asked : (limit : Option ℕ) (all : List ChildWords) (asked : List (List (List ℕ))) (n : ℕ) → asked_lists limit all ≡ asked → length asked ≡ n → length all ≡ n
count_asked limit all asked n is count = sym (length-map all (asked_by limit)) ∙ ap length is ∙ count

pub count_folder : (s : Staged) (roles : List (List ℕ)) → length (words_for s roles) ≡ length roles
count_folder s roles = length-map roles (asked_for s None)

module _ (p : ProtocolValue) (fitted : Fitted) where
  pub count_own : (s : Staged) (n : ℕ) (roles : List (List ℕ)) → length (words_from p fitted s n roles) ≡ length roles
  count_own s n [] = refl
  count_own s n (name ∷ roles) = ap suc (count_own s (n + 1) roles)

  abbrev long_at : ℕ → Option (List ℕ)
  long_at n = first_long (known_texts p n) (own p n fitted).values

  module _ (n : ℕ) (roles : List (List ℕ)) (name : List ℕ) (within : n < length roles) (at : name ≡ get_or roles n name) where
    long_on : long_from p fitted n (drop n roles) ≡ option_or (long_at n) (long_from p fitted (n + 1) (drop (n + 1) roles))
    long_on = ap (long_from p fitted n) (drop_next roles n name within at)

    pub long_next : {o : Option (List ℕ)} → long_from p fitted n (drop n roles) ≡ o → long_at n ≡ None → long_from p fitted (n + 1) (drop (n + 1) roles) ≡ o
    long_next before none = sym (long_on ∙ ap (λ l. option_or l (long_from p fitted (n + 1) (drop (n + 1) roles))) none) ∙ before

    long_here : {o : Option (List ℕ)} (label : List ℕ) → long_from p fitted n (drop n roles) ≡ o → long_at n ≡ Some label → o ≡ Some label
    long_here label before long = sym before ∙ long_on ∙ ap (λ l. option_or l (long_from p fitted (n + 1) (drop (n + 1) roles))) long

    pub words_next : (s : Staged) (old new all : List (List (List ℕ))) (text : List ℕ) → old ++ words_from p fitted s n (drop n roles) ≡ all
        → new ≡ old ++ asked_for s (Some text) name ∷ [] → text ≡ own_text p n fitted → new ++ words_from p fitted s (n + 1) (drop (n + 1) roles) ≡ all
    words_next s old new all text before put is =
        ap (λ l. l ++ words_from p fitted s (n + 1) (drop (n + 1) roles)) put
        ∙ append_assoc old (asked_for s (Some text) name ∷ []) (words_from p fitted s (n + 1) (drop (n + 1) roles))
        ∙ ap (λ t. old ++ (asked_for s (Some t) name ∷ words_from p fitted s (n + 1) (drop (n + 1) roles))) is
        ∙ ap (λ l. old ++ words_from p fitted s n l) (sym (drop_next roles n name within at)) ∙ before

    -- the first value that is too long
    pub own_refused : (status : Status) → long_from p fitted n (drop n roles) ≡ long_from p fitted 0 p.roles → IsFailure status (λ file. ⊥) (OwnIs p n fitted (refused status))
        → IsFailure status (λ file. ⊥) (AreShort p fitted (refused status))
    own_refused status before fails =
        IsFailure-map status _ _ _ _ (λ file never. never) (λ why. (why.0, long_here why.0 before why.2, why.1)) fails

  -- at the end
  pub long_end : (n : ℕ) (roles : List (List ℕ)) {o : Option (List ℕ)} → n ≡ length roles → long_from p fitted n (drop n roles) ≡ o → o ≡ None
  long_end n roles at before = sym before ∙ ap (long_from p fitted n) (ap (λ m. drop m roles) at ∙ drop_all roles)

  pub words_end : (s : Staged) (n : ℕ) (roles : List (List ℕ)) (all asked : List (List (List ℕ))) → n ≡ length roles → all ++ words_from p fitted s n (drop n roles) ≡ asked → all ≡ asked
  words_end s n roles all asked at before =
      sym (nothing all) ∙ sym (ap (λ l. all ++ words_from p fitted s n l) (ap (λ m. drop m roles) at ∙ drop_all roles)) ∙ before

-- where the file with the values fails
pub own_failed : (s : Staged) (told : Option Files) (p : ProtocolValue) (faults faults_now : List ℕ → ℕ) (status : Status) → names_file s.values ≡ true
    → IsFailure status (λ file. (file ≡ s.values) × Rose (faults file) (faults_now file)) (IfTold told (λ files. ValuesInFile files s.values (known_names p) (refused status)))
    → IsFailure status (λ file. IsOneOf (own_files s) file × Rose (faults file) (faults_now file)) (IfTold told (λ files. SceneBy files s (names_file s.values) p (refused status)))
own_failed s told p faults faults_now status named fails = by (names_file s.values) named where
  by : (b : Bool) → b ≡ true
      → IsFailure status (λ file. IsOneOf (if b then s.values ∷ [] else []) file × Rose (faults file) (faults_now file)) (IfTold told (λ files. SceneBy files s b p (refused status)))
  by true is = IsFailure-map status _ _ _ _ (λ file at. (inl at.0, at.1)) (λ why. told_map told (λ files v. inl (status, v, refl)) why) fails
  by false is = absurd (cc)

-- an item within a list, whatever would stand for it without
pub got : (xs : List (List ℕ)) (n : ℕ) (d : List ℕ) → n < length xs → get_or xs n d ≡ get_or xs n (get_or xs n d)
got [] n d within = absurd (omega (arith, within))
got (x ∷ xs) zero d within = refl
got (x ∷ xs) (suc n) d within = got xs n d (omega (arith, within))

-- what is so whatever the files
pub told_all : {P : Files → Type 0} (told : Option Files) → ((files : Files) → P files) → IfTold told P
told_all None f = tt
told_all (Some files) f = f files
