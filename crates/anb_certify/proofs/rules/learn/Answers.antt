use Rattle.std.proofs.Common.{◌<◌, ◌++◌, ◌∷◌, [], true, length, set, get_or, sym, subst, arith}
use Rattle.anb_basis.proofs.Marks.{set_stays}
use Rattle.anb_lemmas.proofs.Lists.{got_within}
use Rattle.anb_certify.specs.declared.works.Job.{Job}
use Rattle.anb_certify.specs.Numbered.{AreKnown}
use Rattle.anb_certify.specs.Tied.{Did}
use Rattle.anb_certify.specs.Works.{work_of, TellsTerms}
use Rattle.anb_certify.proofs.Grouping.{get_here}
use Rattle.anb_certify.proofs.Ruling.{make_known, undo_known, equal_known, make_had, undo_had}
use Rattle.anb_certify.proofs.rules.learn.Goals as goal

pub returns-in-Make-clause-have : goal.returns-in-Make-clause-have
returns-in-Make-clause-have c did there h =
    let d = c.args.d.now in
    let names = c.args.names.now in
    let T : Job → Type 0 = λ j. TellsTerms c.requires.told.0 d.at (work_of j) in
    let D : Job → Type 0 = λ j. Did did d.at (work_of j) in
    let below : d.at < length names = omega (arith, got_within c.requires.told.0 d.at _ (subst T c.in-Make.is c.requires.told.2).2, c.requires.told.1) in
    make_had did names c.args.flags.now.items d.at c.in-Make.field-0 c.in-Make.field-1.items (get_or names d.at 0) (subst D c.in-Make.is there) (get_here names d.at 0 below) h

pub returns-in-Make-clause-known : goal.returns-in-Make-clause-known
returns-in-Make-clause-known c did h =
    let d = c.args.d.now in
    let names = c.args.names.now in
    let flags = c.args.flags.now.items in
    let T : Job → Type 0 = λ j. TellsTerms c.requires.told.0 d.at (work_of j) in
    let below : d.at < length names = omega (arith, got_within c.requires.told.0 d.at _ (subst T c.in-Make.is c.requires.told.2).2, c.requires.told.1) in
    let cl = get_or names d.at 0 in
    let here = get_here names d.at 0 below in
    let J : Job → Type 0 = λ j. AreKnown (did ++ (d.at, work_of j) ∷ []) names (set flags cl true) in
    subst J (sym c.in-Make.is) (make_known did names flags d.at c.in-Make.field-0 c.in-Make.field-1.items cl h (omega (arith, c.requires.below d.at cl here, c.requires.long)) here)

pub returns-in-Undo-clause-kept : goal.returns-in-Undo-clause-kept
returns-in-Undo-clause-kept c = set_stays c.args.flags.now.items (get_or c.args.names.now c.in-Undo.of 0)

pub returns-in-Undo-clause-have : goal.returns-in-Undo-clause-have
returns-in-Undo-clause-have c did there h =
    let d = c.args.d.now in
    let names = c.args.names.now in
    let n = c.in-Undo.of in
    let T : Job → Type 0 = λ j. TellsTerms c.requires.told.0 d.at (work_of j) in
    let D : Job → Type 0 = λ j. Did did d.at (work_of j) in
    let below : n < length names = omega (arith, got_within c.requires.told.0 n _ (subst T c.in-Undo.is c.requires.told.2).5, c.requires.told.1) in
    undo_had did names c.args.flags.now.items d.at c.in-Undo.field-0 c.in-Undo.field-1.items n (get_or names n 0) (subst D c.in-Undo.is there) (get_here names n 0 below) h

pub returns-in-Undo-clause-known : goal.returns-in-Undo-clause-known
returns-in-Undo-clause-known c did h =
    let d = c.args.d.now in
    let names = c.args.names.now in
    let flags = c.args.flags.now.items in
    let n = c.in-Undo.of in
    let T : Job → Type 0 = λ j. TellsTerms c.requires.told.0 d.at (work_of j) in
    let below : n < length names = omega (arith, got_within c.requires.told.0 n _ (subst T c.in-Undo.is c.requires.told.2).5, c.requires.told.1) in
    let cl = get_or names n 0 in
    let here = get_here names n 0 below in
    let J : Job → Type 0 = λ j. AreKnown (did ++ (d.at, work_of j) ∷ []) names (set flags cl true) in
    subst J (sym c.in-Undo.is) (undo_known did names flags d.at c.in-Undo.field-0 c.in-Undo.field-1.items n cl h (omega (arith, c.requires.below n cl here, c.requires.long)) here)

pub returns-in-Equal-clause-known : goal.returns-in-Equal-clause-known
returns-in-Equal-clause-known c did h =
    let d = c.args.d.now in
    let J : Job → Type 0 = λ j. AreKnown (did ++ (d.at, work_of j) ∷ []) c.args.names.now c.args.flags.now.items in
    subst J (sym c.in-Equal.is) (equal_known did c.args.names.now c.args.flags.now.items d.at c.in-Equal.field-0 c.in-Equal.field-1 h)
