-- What is found of an opening, by a run on its stage.
use Rattle.std.proofs.Common.{◌≡◌, ◌<◌, ℕ, ◌-◌, List, ◌++◌, length, map, drop, Bool, true, Some, refl, sym, ap, ◌∙◌, subst, arith, length-append}
use Rattle.std.specs.Prelude.{slice_get}
use Rattle.std.specs.List.{AllByRecursion}
use Rattle.std.proofs.Math.Seq.{drop-append_seam}
use Rattle.std.proofs.lemmas.List.{length-map}
use Rattle.anb_lemmas.proofs.Each.{each_got}
use Rattle.anb_lemmas.proofs.Lists.{got_within}
use Rattle.anb_term.specs.declared.term.Op.{Op}
use Rattle.anb_term.specs.declared.term.Term.{Term}
use Rattle.anb_term.specs.Lawful.{picked}
use Rattle.anb_term.specs.Operator.{arity, keys}
use Rattle.anb_term.specs.Tree.{Tree, node, trees_of}
use Rattle.anb_term.specs.View.{tree_of}
use Rattle.anb_term.specs.FreeAlgebra.{terms}
use Rattle.anb_algebra.specs.ByteMeaning.{has_operator}
use Rattle.anb_plays.specs.Plans.{Event, known}
use Rattle.anb_plays.specs.Plays.{stopped}
use Rattle.anb_plays.specs.Codes.{Act}
use Rattle.anb_plays.specs.Exec.{HasTakes}
use Rattle.anb_plays.specs.Honest.{heard, made}
use Rattle.anb_code.specs.CodeValue.{CodeValue}
use Rattle.anb_code.specs.Meaning.{acts_of}
use Rattle.anb_code.specs.Taking.{take_texts}
use Rattle.anb_protocol.specs.Plans.{plan_of, term_in}
use Rattle.anb_protocol.specs.Plays.{events_of}
use Rattle.anb_protocol.specs.Protocols.{ProtocolValue}
use Rattle.anb_protocol.specs.Texts.{IsTermOf, known_by, term_text}
use Rattle.anb_protocol.proofs.KnowLemmas.{formed}
use Rattle.anb_compile.specs.Fitting.{FitsRole}
use Rattle.anb_compile.proofs.Events.{known_events}
use Rattle.anb_compile.proofs.Protocols.{known_of_plan}
use Rattle.anb_explain.specs.Explained.{register_terms}
use Rattle.anb_openings.specs.Steps.{begun, writing, after_all}
use Rattle.anb_openings.specs.Openings.{spared, IsObstacle, IsOpened, IsOpening, IsOpeningCase, IsOpeningFinding, OpeningValue, opening_value}
use Rattle.anb_openings.specs.Walks.{IsFound, IsFoundOn, IsOf, IsStage}
use Rattle.anb_openings.specs.declared.cases.OpeningCase.{OpeningCase}
use Rattle.anb_openings.specs.declared.cases.OpeningFinding.{OpeningFinding}
use Rattle.anb_openings.specs.declared.cases.OpeningFinding.TheVariants as finding
use Rattle.anb_openings.specs.declared.finding.Stage.{Stage}
use Rattle.anb_openings.proofs.Keyed.{told, came_formed, keys_are, narrated, opened_is, stops, there}
use Rattle.anb_openings.proofs.Opened.{all_used}

-- as many takes as what is known
takes_are_known : (p : ProtocolValue) (role : ℕ) (code : CodeValue) → FitsRole p role code → length (take_texts code.instrs) ≡ length (known (events_of p role))
takes_are_known p role code fits =
    ap length fits.texts ∙ length-map (known_by p role) (term_text p) ∙ sym (ap length (known_events (plan_of p role) ∙ known_of_plan p role))

pub taken : (p : ProtocolValue) (role : ℕ) (code : CodeValue) (has : Op → Bool) → FitsRole p role code → HasTakes has (acts_of code) 0 (length (take_texts code.instrs)) → HasTakes has (acts_of code) 0 (length (known (events_of p role)))
taken p role code has fits ready = subst (λ n. HasTakes has (acts_of code) 0 n) (takes_are_known p role code fits) ready

-- what is said of lists is said of the same ones
moved : (P : List Tree → List Tree → List Tree → ℕ → List Tree → Type 0) (k k' m m' a a' : List Tree) (s s' : ℕ) (w w' : List Tree) → k ≡ k' → m ≡ m' → a ≡ a' → s ≡ s' → w ≡ w' → P k m a s w → P k' m' a' s' w'
moved P k k' m m' a a' s s' w w' ek em ea es ew h =
    subst (λ x. P k' m' a' s' x) ew (subst (λ x. P k' m' a' x w) es (subst (λ x. P k' m' x s w) ea (subst (λ x. P k' x a s w) em (subst (λ x. P x m a s w) ek h))))

-- what is known of a role's code, and of the terms that explain its registers
pub record Grounds (p : ProtocolValue) (role : ℕ) (code : CodeValue) (registers : List Tree) : Type 0 where
  pub fits : FitsRole p role code
  pub taking : HasTakes (has_operator p.formats) (acts_of code) 0 (length (known (events_of p role)))
  pub any : HasTakes (λ o. true) (acts_of code) 0 (length (known (events_of p role)))
  pub of_plan : AllByRecursion (λ e. IsTermOf p (term_in e)) (plan_of p role)
  pub explained : register_terms p role code ≡ Some registers
  pub ours : AllByRecursion (IsTermOf p) registers

module _ (p : ProtocolValue) (role : ℕ) (code : CodeValue) (instruction : ℕ) (o : Op) (ks : List ℕ) (r : ℕ) (opening : IsOpening (acts_of code) instruction o ks r) (registers : List Tree) (g : Grounds p role code registers) where
  abbrev has : Op → Bool
  has = has_operator p.formats

  abbrev names : ℕ
  names = length p.atoms

  abbrev plan : List Event
  plan = events_of p role

  abbrev acts : List Act
  acts = acts_of code

  -- what it opens is a register's term
  pub within : r < length registers
  within = got_within registers r (told p role code instruction o ks r opening g.fits g.taking g.any g.of_plan registers g.explained).opened (told p role code instruction o ks r opening g.fits g.taking g.any g.of_plan registers g.explained).there

  module _ (opened : Tree) (here : slice_get registers r ≡ Some opened) where
    abbrev keyed : List Tree
    keyed = picked (told p role code instruction o ks r opening g.fits g.taking g.any g.of_plan registers g.explained).before.table ks

    abbrev parts : List Tree
    parts = (told p role code instruction o ks r opening g.fits g.taking g.any g.of_plan registers g.explained).parts

    abbrev came : List Tree
    came = map (spared names opened) (heard plan)

    opens : opened ≡ node o (trees_of (keyed ++ parts))
    opens = opened_is p role code instruction o ks r opening g.fits g.taking g.any g.of_plan registers g.explained opened here

    count : length keyed ≡ keys o
    count = (told p role code instruction o ks r opening g.fits g.taking g.any g.of_plan registers g.explained).count

    -- the operands behind the keys are the parts, as many as the opening writes
    pub parts_are : (ps : List Tree) → ((q : Op) (ts : List Tree) → opened ≡ node q (trees_of ts) → ps ≡ drop (keys o) ts) → ps ≡ parts
    parts_are ps h = h o (keyed ++ parts) opens ∙ ap (λ n. drop n (keyed ++ parts)) (sym count) ∙ drop-append_seam keyed parts

    pub many : length parts ≡ arity o - keys o
    many = omega (arith, (told p role code instruction o ks r opening g.fits g.taking g.any g.of_plan registers g.explained).long, length-append keyed parts, count)

    is_case : (case : OpeningCase) → IsFound acts instruction (known plan) (made plan) came names r parts case
        → IsOpeningCase has names plan acts instruction o ks r (record { arrivals = came; messages = map tree_of case.messages.items; opened = opened; event = case.event })
    is_case case f = record {
      formed = (formed p opened (each_got (IsTermOf p) registers r opened g.ours here), came_formed p role code instruction o ks r opening g.fits g.taking g.any g.of_plan registers g.explained opened here);
      narrated = narrated p role code instruction o ks r opening g.fits g.taking g.any g.of_plan registers g.explained opened here;
      before = f.before;
      comes = f.comes;
      finds = f.finds;
      event = f.event;
      stops = stops p role code instruction o ks r opening g.fits g.taking g.any g.of_plan registers g.explained opened here f.before f.comes f.finds ∙ ap (λ k. stopped k instruction) f.event;
      keyed = keyed;
      parts = parts;
      opens = opens;
      count = count;
      keys_are = keys_are p role code instruction o ks r opening g.fits g.taking g.any g.of_plan registers g.explained opened here f.before f.comes;
      behind = f.behind;
      goes_on = f.goes_on;
      used = all_used p role code instruction o ks r registers opening g.fits g.taking g.explained (begun (known plan) came) f.before (writing parts f.before) f.behind (length-map (heard plan) (spared names opened)) refl
          (there p role code instruction o ks r opening g.fits g.taking g.any g.of_plan registers g.explained opened here f.before f.comes)
          (subst (λ k. after_all terms (made plan) (drop k acts) (writing parts f.before) ≡ Some f.behind) opening.counts f.goes_on);
      messages = f.messages;
    }

    module _ (stage : Stage) (is : IsStage names opened plan stage) where
      is_opened : (number : ℕ) (arrivals : List Term) (t : Term) → IsOf code instruction stage number arrivals t → IsOpened p role code instruction o ks r (tree_of t) (map tree_of arrivals)
      is_opened number arrivals t of =
          let same : tree_of t ≡ opened = ap tree_of of.opened_is ∙ is.opened_is in
          record {
            opening = opening;
            registers = registers;
            explained = g.explained;
            narrated = here ∙ ap Some (sym same);
            put = ap (map tree_of) of.arrivals_are ∙ is.arrivals_are ∙ ap (λ u. map (spared names u) (heard plan)) (sym same);
          }

      -- what is found on the stage is found of the role's opening
      pub is_finding : (ps : List Tree) → ps ≡ parts → (f : OpeningFinding) → IsFoundOn code instruction r ps stage f → IsOpeningFinding p role code instruction f
      is_finding ps these (finding.Case case) h =
          let of = h.0 in
          let found = moved (λ k m a s w. IsFound acts instruction k m a s r w case) (map tree_of stage.known.items) (known plan) (map tree_of stage.made.items) (made plan) (map tree_of stage.arrivals.items) came stage.spare names ps parts
          is.known_are is.made_are is.arrivals_are is.spare_is these h.1 in
          let arrivals : came ≡ map tree_of case.arrivals.items = sym (ap (map tree_of) of.arrivals_are ∙ is.arrivals_are) in
          let term : opened ≡ tree_of case.opened = sym (ap tree_of of.opened_is ∙ is.opened_is) in
          let value : List Tree → Tree → OpeningValue = λ l t. record { arrivals = l; messages = map tree_of case.messages.items; opened = t; event = case.event } in
          let same : value came opened ≡ opening_value case = ap (λ l. value l opened) arrivals ∙ ap (value (map tree_of case.arrivals.items)) term in
          record {
            number = of.number_is;
            o = o;
            ks = ks;
            r = r;
            opened = is_opened case.instruction case.arrivals.items case.opened of;
            is = subst (IsOpeningCase has names plan acts instruction o ks r) same (is_case case found);
          }
      is_finding ps these (finding.NoCase lack) h =
          let of = h.0 in
          let arrivals : map tree_of lack.arrivals.items ≡ map tree_of stage.arrivals.items = ap (map tree_of) of.arrivals_are in
          record {
            number = of.number_is;
            event = h.1;
            o = o;
            ks = ks;
            r = r;
            opened = is_opened lack.instruction lack.arrivals.items lack.opened of;
            keyed = keyed;
            parts = parts;
            opens = ap tree_of of.opened_is ∙ is.opened_is ∙ opens;
            count = count;
            why = moved (λ k m a s w. IsObstacle m k a acts instruction s r w lack.why) (map tree_of stage.known.items) (known plan) (map tree_of stage.made.items) (made plan) (map tree_of stage.arrivals.items) (map tree_of lack.arrivals.items) stage.spare names ps parts
                is.known_are is.made_are (sym arrivals) is.spare_is these h.2;
          }
