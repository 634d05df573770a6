-- Stages: where a role file goes on, and where it doesn't.
use Rattle.std.proofs.Common.{◌≡◌, ℕ, List, [], ◌∷◌, ◌++◌, map, Option, Some, None, refl, sym, ap, subst, ◌∙◌, append_assoc}
use Rattle.std.specs.Prelude.{IfSome, IsTrue, codes}
use Rattle.std.specs.List.{AllByRecursion}
use Rattle.std.proofs.lemmas.List.{append-nil}
use Rattle.anb_base.specs.declared.content.Suite.{Suite}
use Rattle.anb_base.specs.declared.content.Suite.TheVariants as suite
use Rattle.anb_format.specs.Formats.{FormatValue}
use Rattle.anb_syntax.specs.Words.{is_name}
use Rattle.anb_code.specs.RawValue.{RawInstrValue, RawValue}
use Rattle.anb_text.specs.declared.lines.Version.{Version}
use Rattle.anb_text.specs.declared.lines.Version.TheVariants as version
use Rattle.anb_text.specs.declared.lines.Line.{Line}
use Rattle.anb_text.specs.declared.lines.Line.TheVariants as line
use Rattle.anb_text.specs.declared.stages.Stage.{Stage}
use Rattle.anb_text.specs.declared.stages.Stage.TheVariants.{Start, Version as OfVersion, Protocol, Role, Formats, Code, End}
use Rattle.anb_text.specs.Lines.{IsFormat, IsInstr, IsLine}
use Rattle.anb_text.specs.RoleFiles.{IsFor, IsRoleFile, IsSpellable, file_lines, suite_lines}
use Rattle.anb_text.specs.Refusals.{Begins}
use Rattle.anb_text.specs.Stages.{IsStage, heading, lines_to, no_code, stage_after, with_format, with_instr}
use Rattle.anb_lemmas.proofs.Each.{each_and_last, each_in_front}

-- ---- the stage behind some lines

abbrev run : Option Stage → List Line → Option Stage
run o [] = o
run None (l ∷ ls) = None
run (Some s) (l ∷ ls) = run (stage_after s l) ls

run-none : (ls : List Line) → run None ls ≡ None
run-none [] = refl
run-none (l ∷ ls) = refl

run-append : (o : Option Stage) (xs ys : List Line) → run o (xs ++ ys) ≡ run (run o xs) ys
run-append o [] ys = refl
run-append None (x ∷ xs) ys = sym (run-none ys)
run-append (Some s) (x ∷ xs) ys = run-append (stage_after s x) xs ys

abbrev with_formats : RawValue → List FormatValue → RawValue
with_formats raw formats = record raw { formats = formats }

abbrev with_code : RawValue → List RawInstrValue → RawValue
with_code raw code = record raw { code = code }

run-formats : (v : Version) (raw : RawValue) (formats : List FormatValue) (ls : List Line)
    → run (Some (Formats v raw)) (map line.Format formats ++ ls) ≡ run (Some (Formats v (with_formats raw (raw.formats ++ formats)))) ls
run-formats v raw [] ls = ap (λ fs. run (Some (Formats v (with_formats raw fs))) ls) (sym (append-nil raw.formats))
run-formats v raw (f ∷ formats) ls =
    run-formats v (with_format raw f) formats ls ∙ ap (λ fs. run (Some (Formats v (with_formats raw fs))) ls) (append_assoc raw.formats (f ∷ []) formats)

run-code : (v : Version) (raw : RawValue) (code : List RawInstrValue) (ls : List Line)
    → run (Some (Code v raw)) (map line.Instr code ++ ls) ≡ run (Some (Code v (with_code raw (raw.code ++ code)))) ls
run-code v raw [] ls = ap (λ is. run (Some (Code v (with_code raw is))) ls) (sym (append-nil raw.code))
run-code v raw (i ∷ code) ls =
    run-code v (with_instr raw i) code ls ∙ ap (λ is. run (Some (Code v (with_code raw is))) ls) (append_assoc raw.code (i ∷ []) code)

run-heading : (v : Version) (raw : RawValue) (ls : List Line) → IsFor v raw.suite
    → run (Some Start) (line.Version v ∷ line.Protocol raw.protocol ∷ line.Role raw.role ∷ suite_lines v raw.suite ++ ls) ≡ run (Some (Formats v (no_code raw.protocol raw.role raw.suite))) ls
run-heading version.One raw ls is = ap (λ s. run (Some (Formats version.One (no_code raw.protocol raw.role s))) ls) (sym is)
run-heading version.Two raw ls is = refl

-- a role file leads to its end
pub run-file : (v : Version) (raw : RawValue) → IsFor v raw.suite → run (Some Start) (file_lines v raw) ≡ Some (End v raw)
run-file v raw is =
    run-heading v raw (map line.Format raw.formats ++ line.Code ∷ (map line.Instr raw.code ++ line.End ∷ [])) is
    ∙ run-formats v (no_code raw.protocol raw.role raw.suite) raw.formats (line.Code ∷ (map line.Instr raw.code ++ line.End ∷ []))
    ∙ run-code v (with_formats (no_code raw.protocol raw.role raw.suite) raw.formats) raw.code (line.End ∷ [])

-- the lines of a stage lead to it
pub run-lines_to : (s : Stage) → IsStage s → run (Some Start) (lines_to s) ≡ Some s
run-lines_to Start is = refl
run-lines_to (OfVersion v) is = refl
run-lines_to (Protocol v protocol) is = refl
run-lines_to (Role protocol role) is = refl
run-lines_to (Formats v raw) is =
    ap (λ ls. run (Some Start) ls) (ap (λ ls. line.Version v ∷ line.Protocol raw.protocol ∷ line.Role raw.role ∷ suite_lines v raw.suite ++ ls) (sym (append-nil (map line.Format raw.formats))))
    ∙ run-heading v raw (map line.Format raw.formats ++ []) is.0
    ∙ run-formats v (no_code raw.protocol raw.role raw.suite) raw.formats []
    ∙ ap (λ is. Some (Formats v (with_code raw is))) (sym is.2)
run-lines_to (Code v raw) is =
    ap (λ ls. run (Some Start) (line.Version v ∷ line.Protocol raw.protocol ∷ line.Role raw.role ∷ suite_lines v raw.suite ++ (map line.Format raw.formats ++ line.Code ∷ ls))) (sym (append-nil (map line.Instr raw.code)))
    ∙ run-heading v raw (map line.Format raw.formats ++ line.Code ∷ (map line.Instr raw.code ++ [])) is.0
    ∙ run-formats v (no_code raw.protocol raw.role raw.suite) raw.formats (line.Code ∷ (map line.Instr raw.code ++ []))
    ∙ run-code v (with_formats (no_code raw.protocol raw.role raw.suite) raw.formats) raw.code []
run-lines_to (End v raw) is = run-file v raw is.0

-- ---- one line more

map_push : {A : Type 0} (f : A → Line) (xs : List A) (x : A) → map f (xs ++ x ∷ []) ≡ map f xs ++ f x ∷ []
map_push f [] x = refl
map_push f (y ∷ ys) x = ap (λ ls. f y ∷ ls) (map_push f ys x)

at_code : (v : Version) (raw : RawValue) (ls more : List Line) → heading v raw ++ (map line.Format raw.formats ++ line.Code ∷ ls) ++ more ≡ heading v raw ++ (map line.Format raw.formats ++ line.Code ∷ (ls ++ more))
at_code v raw ls more = append_assoc (heading v raw) (map line.Format raw.formats ++ line.Code ∷ ls) more ∙ ap (λ xs. heading v raw ++ xs) (append_assoc (map line.Format raw.formats) (line.Code ∷ ls) more)

pub one_line_more : (s : Stage) (l : Line) → IsStage s → IsLine l → IfSome (stage_after s l) (λ t. IsStage t × (lines_to t ≡ lines_to s ++ l ∷ []))
one_line_more Start (line.Version v) is can = (tt, refl)
one_line_more (OfVersion v) (line.Protocol name) is can = (can, refl)
one_line_more (Protocol version.One protocol) (line.Role role) is can =
    ((refl, record { protocol = is; role = can; formats = tt; code = tt }, refl), refl)
one_line_more (Protocol version.Two protocol) (line.Role role) is can = ((is, can), refl)
one_line_more (Role protocol role) (line.Suite suite) is can =
    ((tt, record { protocol = is.0; role = is.1; formats = tt; code = tt }, refl), refl)
one_line_more (Formats v raw) (line.Format format) is can = (
  (is.0, record { protocol = is.1.protocol; role = is.1.role; formats = each_and_last IsFormat raw.formats format is.1.formats can; code = is.1.code }, is.2),
  ap (λ ls. heading v raw ++ ls) (map_push line.Format raw.formats format) ∙ sym (append_assoc (heading v raw) (map line.Format raw.formats) (line.Format format ∷ [])),
)
one_line_more (Formats v raw) line.Code is can = (
  (is.0, is.1),
  ap (λ code. heading v raw ++ (map line.Format raw.formats ++ line.Code ∷ map line.Instr code)) is.2 ∙ sym (append_assoc (heading v raw) (map line.Format raw.formats) (line.Code ∷ [])),
)
one_line_more (Code v raw) (line.Instr instr) is can = (
  (is.0, record { protocol = is.1.protocol; role = is.1.role; formats = is.1.formats; code = each_and_last IsInstr raw.code instr is.1.code can }),
  ap (λ ls. heading v raw ++ (map line.Format raw.formats ++ line.Code ∷ ls)) (map_push line.Instr raw.code instr) ∙ sym (at_code v raw (map line.Instr raw.code) (line.Instr instr ∷ [])),
)
one_line_more (Code v raw) line.End is can = ((is.0, is.1), sym (at_code v raw (map line.Instr raw.code) (line.End ∷ [])))
one_line_more s l is can = tt

-- ---- lines that aren't in the grammar somewhere

pub only_version : (s : Stage) (l : Line) → s ≡ Start → ((v : Version) → l ≡ line.Version v → ⊥) → None ≡ stage_after s l
only_version s l e not_it = rw e (go l not_it) where
  go : (l : Line) → ((v : Version) → l ≡ line.Version v → ⊥) → None ≡ stage_after Start l
  go (line.Version v) not_it = absurd (not_it v refl)
  go l not_it = refl

pub only_protocol : (s : Stage) (l : Line) (v : Version) → s ≡ OfVersion v → ((name : List ℕ) → l ≡ line.Protocol name → ⊥) → None ≡ stage_after s l
only_protocol s l v e not_it = rw e (go l not_it) where
  go : (l : Line) → ((name : List ℕ) → l ≡ line.Protocol name → ⊥) → None ≡ stage_after (OfVersion v) l
  go (line.Protocol name) not_it = absurd (not_it name refl)
  go l not_it = refl

pub only_role : (s : Stage) (l : Line) (v : Version) (protocol : List ℕ) → s ≡ Protocol v protocol → ((name : List ℕ) → l ≡ line.Role name → ⊥) → None ≡ stage_after s l
only_role s l v protocol e not_it = rw e (go v l not_it) where
  go : (v : Version) (l : Line) → ((name : List ℕ) → l ≡ line.Role name → ⊥) → None ≡ stage_after (Protocol v protocol) l
  go version.One (line.Role name) not_it = absurd (not_it name refl)
  go version.Two (line.Role name) not_it = absurd (not_it name refl)
  go v l not_it = refl

pub only_suite : (s : Stage) (l : Line) (protocol role : List ℕ) → s ≡ Role protocol role → ((suite : Suite) → l ≡ line.Suite suite → ⊥) → None ≡ stage_after s l
only_suite s l protocol role e not_it = rw e (go l not_it) where
  go : (l : Line) → ((suite : Suite) → l ≡ line.Suite suite → ⊥) → None ≡ stage_after (Role protocol role) l
  go (line.Suite suite) not_it = absurd (not_it suite refl)
  go l not_it = refl

pub only_formats : (s : Stage) (l : Line) (v : Version) (raw : RawValue) → s ≡ Formats v raw → ((format : FormatValue) → l ≡ line.Format format → ⊥) → (l ≡ line.Code → ⊥) → None ≡ stage_after s l
only_formats s l v raw e not_format not_code = rw e (go l not_format not_code) where
  go : (l : Line) → ((format : FormatValue) → l ≡ line.Format format → ⊥) → (l ≡ line.Code → ⊥) → None ≡ stage_after (Formats v raw) l
  go (line.Format format) not_format not_code = absurd (not_format format refl)
  go line.Code not_format not_code = absurd (not_code refl)
  go l not_format not_code = refl

pub only_code : (s : Stage) (l : Line) (v : Version) (raw : RawValue) → s ≡ Code v raw → ((instr : RawInstrValue) → l ≡ line.Instr instr → ⊥) → (l ≡ line.End → ⊥) → None ≡ stage_after s l
only_code s l v raw e not_instr not_end = rw e (go l not_instr not_end) where
  go : (l : Line) → ((instr : RawInstrValue) → l ≡ line.Instr instr → ⊥) → (l ≡ line.End → ⊥) → None ≡ stage_after (Code v raw) l
  go (line.Instr instr) not_instr not_end = absurd (not_instr instr refl)
  go line.End not_instr not_end = absurd (not_end refl)
  go l not_instr not_end = refl

pub only_nothing : (s : Stage) (l : Line) (v : Version) (raw : RawValue) → s ≡ End v raw → None ≡ stage_after s l
only_nothing s l v raw e = rw e refl

-- ---- role files that go on behind a stage

before : (s t : Stage) (l : Line) → lines_to t ≡ lines_to s ++ l ∷ [] → Begins (lines_to t) → Begins (lines_to s)
before s t l e b = (l ∷ b.0, subst IsRoleFile (ap (λ ls. ls ++ b.0) e ∙ append_assoc (lines_to s) (l ∷ []) b.0) b.1)

some_name : IsTrue (is_name (codes "A"))
unfolding is_name
some_name = refl

begins_end : (v : Version) (raw : RawValue) → IsStage (End v raw) → Begins (lines_to (End v raw))
begins_end v raw is = ([], record { v = v; raw = raw; suite = is.0; spellable = is.1; stands = append-nil (file_lines v raw) })

begins_code : (v : Version) (raw : RawValue) → IsStage (Code v raw) → Begins (lines_to (Code v raw))
begins_code v raw is = let next = one_line_more (Code v raw) line.End is tt in before (Code v raw) (End v raw) line.End next.1 (begins_end v raw next.0)

begins_formats : (v : Version) (raw : RawValue) → IsStage (Formats v raw) → Begins (lines_to (Formats v raw))
begins_formats v raw is = let next = one_line_more (Formats v raw) line.Code is tt in before (Formats v raw) (Code v raw) line.Code next.1 (begins_code v raw next.0)

begins_role : (protocol role : List ℕ) → IsStage (Role protocol role) → Begins (lines_to (Role protocol role))
begins_role protocol role is =
    let l = line.Suite suite.Two in
    let t = Formats version.Two (no_code protocol role suite.Two) in
    let next = one_line_more (Role protocol role) l is tt in before (Role protocol role) t l next.1 (begins_formats version.Two (no_code protocol role suite.Two) next.0)

begins_protocol : (v : Version) (protocol : List ℕ) → IsStage (Protocol v protocol) → Begins (lines_to (Protocol v protocol))
begins_protocol version.One protocol is =
    let l = line.Role (codes "A") in
    let t = Formats version.One (no_code protocol (codes "A") suite.One) in
    let next = one_line_more (Protocol version.One protocol) l is some_name in before (Protocol version.One protocol) t l next.1 (begins_formats version.One (no_code protocol (codes "A") suite.One) next.0)
begins_protocol version.Two protocol is =
    let l = line.Role (codes "A") in
    let next = one_line_more (Protocol version.Two protocol) l is some_name in before (Protocol version.Two protocol) (Role protocol (codes "A")) l next.1 (begins_role protocol (codes "A") next.0)

begins_version : (v : Version) → Begins (lines_to (OfVersion v))
begins_version v =
    let l = line.Protocol (codes "A") in before (OfVersion v) (Protocol v (codes "A")) l refl (begins_protocol v (codes "A") some_name)

pub begins : (s : Stage) → IsStage s → Begins (lines_to s)
begins Start is = before Start (OfVersion version.One) (line.Version version.One) refl (begins_version version.One)
begins (OfVersion v) is = begins_version v
begins (Protocol v protocol) is = begins_protocol v protocol is
begins (Role protocol role) is = begins_role protocol role is
begins (Formats v raw) is = begins_formats v raw is
begins (Code v raw) is = begins_code v raw is
begins (End v raw) is = begins_end v raw is

-- none goes on with a line that isn't in the grammar there
pub stuck : (s : Stage) (next : Line) → IsStage s → stage_after s next ≡ None → Begins (lines_to s ++ next ∷ []) → ⊥
stuck s next is none b =
    let whole : run (Some Start) ((lines_to s ++ next ∷ []) ++ b.0) ≡ Some (End b.1.v b.1.raw) = ap (λ ls. run (Some Start) ls) b.1.stands ∙ run-file b.1.v b.1.raw b.1.suite in
    let one : run (Some Start) (lines_to s ++ next ∷ []) ≡ None = run-append (Some Start) (lines_to s) (next ∷ []) ∙ ap (λ o. run o (next ∷ [])) (run-lines_to s is) ∙ none in
    let all : run (Some Start) ((lines_to s ++ next ∷ []) ++ b.0) ≡ None = run-append (Some Start) (lines_to s ++ next ∷ []) b.0 ∙ ap (λ o. run o b.0) one ∙ run-none b.0 in
    cc (whole, all)

-- a stage whose lines are a role file is the end
pub ended_there : (s : Stage) → IsStage s → (file : IsRoleFile (lines_to s)) → s ≡ End file.v file.raw
ended_there s is file =
    let here = run-lines_to s is in
    let there : run (Some Start) (lines_to s) ≡ Some (End file.v file.raw) = ap (λ ls. run (Some Start) ls) file.stands ∙ run-file file.v file.raw file.suite in
    cc (here, there)

-- lines spell one code
pub one_code : (lines others : List Line) → lines ≡ others → (one : IsRoleFile lines) (other : IsRoleFile others) → one.raw ≡ other.raw
one_code lines others same one other =
    let first : run (Some Start) lines ≡ Some (End one.v one.raw) = ap (λ ls. run (Some Start) ls) one.stands ∙ run-file one.v one.raw one.suite in
    let second : run (Some Start) others ≡ Some (End other.v other.raw) = ap (λ ls. run (Some Start) ls) other.stands ∙ run-file other.v other.raw other.suite in
    cc (same, first, second)

-- ---- its lines can be written

all_mapped : {A : Type 0} (P : A → Type 0) (f : A → Line) (xs : List A) (ls : List Line) → ((x : A) → P x → IsLine (f x)) → AllByRecursion P xs → AllByRecursion IsLine ls → AllByRecursion IsLine (map f xs ++ ls)
all_mapped P f [] ls is all rest = rest
all_mapped P f (x ∷ xs) ls is all rest = (is x all.0, all_mapped P f xs ls is all.1 rest)

all_last : {A : Type 0} (P : A → Type 0) (xs : List A) (x : A) → AllByRecursion P (xs ++ x ∷ []) → P x
all_last P [] x all = all.0
all_last P (y ∷ ys) x all = all_last P ys x all.1

body_is : (raw : RawValue) → IsSpellable raw → AllByRecursion IsLine (map line.Format raw.formats ++ line.Code ∷ (map line.Instr raw.code ++ line.End ∷ []))
body_is raw is =
    all_mapped IsFormat line.Format raw.formats (line.Code ∷ (map line.Instr raw.code ++ line.End ∷ [])) (λ f h. h) is.formats
    (tt, all_mapped IsInstr line.Instr raw.code (line.End ∷ []) (λ i h. h) is.code (tt, tt))

file_is : (v : Version) (raw : RawValue) → IsSpellable raw → AllByRecursion IsLine (file_lines v raw)
file_is version.One raw is = (tt, (is.protocol, (is.role, body_is raw is)))
file_is version.Two raw is = (tt, (is.protocol, (is.role, (tt, body_is raw is))))

pub role_file_is : (lines : List Line) → IsRoleFile lines → AllByRecursion IsLine lines
role_file_is lines file = subst (AllByRecursion IsLine) (sym file.stands) (file_is file.v file.raw file.spellable)

pub beginning_is : (lines : List Line) → Begins lines → AllByRecursion IsLine lines
beginning_is lines b = each_in_front IsLine lines b.0 (role_file_is (lines ++ b.0) b.1)

pub next_is : (lines : List Line) (next : Line) → Begins (lines ++ next ∷ []) → IsLine next
next_is lines next b = all_last IsLine lines next (beginning_is (lines ++ next ∷ []) b)
