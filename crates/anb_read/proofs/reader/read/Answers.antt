use Rattle.std.proofs.Common.{List, sym, subst, ◌∙◌, ◌≤◌, length}
use Rattle.anb_syntax.specs.Lexing.{Lexes}
use Rattle.anb_syntax.specs.Grammar.{Narration, IsSpellable, told}
use Rattle.anb_syntax.specs.Text.{Text}
use Rattle.anb_read.specs.Places.{toks}
use Rattle.anb_read.specs.Tellings.{written_of}
use Rattle.anb_read.specs.declared.places.Place.{Place}
use Rattle.anb_syntax.specs.Sizes.{size}
use Rattle.anb_read.proofs.Sizing.{text_size}
use Rattle.anb_read.proofs.Answering.{ok_found, ok_spellable, ok_only, ok_exact, err_refused, err_only, err_exact}
use Rattle.anb_read.proofs.reader.read.Goals as goal

pub returns-in-Ok-clause-found : goal.returns-in-Ok-clause-found
returns-in-Ok-clause-found c =
    let P : Narration → Type 0 = λ n. Text n c.args.text.now in
    subst P (sym c.told.ensures) (ok_found c.args.text.now (toks c.args.text.now c.deref.result.now) (let P = λ (vs : List Place). Lexes 0 c.args.text.now (toks c.args.text.now vs) in subst P (sym c.deref.ensures.value) c.in_ok-all.ensures) (written_of c.in-Ok.written) (toks c.args.text.now c.in-Ok._rest.now) c.in-Ok.ensures)

pub returns-in-Ok-clause-only : goal.returns-in-Ok-clause-only
returns-in-Ok-clause-only c n t = c.told.ensures ∙ ok_only c.args.text.now (toks c.args.text.now c.deref.result.now) (let P = λ (vs : List Place). Lexes 0 c.args.text.now (toks c.args.text.now vs) in subst P (sym c.deref.ensures.value) c.in_ok-all.ensures) (written_of c.in-Ok.written) (toks c.args.text.now c.in-Ok._rest.now) c.in-Ok.ensures n t

pub returns-in-Ok-clause-exact : goal.returns-in-Ok-clause-exact
returns-in-Ok-clause-exact c why r = ok_exact c.args.text.now (toks c.args.text.now c.deref.result.now) (let P = λ (vs : List Place). Lexes 0 c.args.text.now (toks c.args.text.now vs) in subst P (sym c.deref.ensures.value) c.in_ok-all.ensures) (written_of c.in-Ok.written) (toks c.args.text.now c.in-Ok._rest.now) c.in-Ok.ensures why r

pub returns-clause-only : goal.returns-clause-only
returns-clause-only c n t = err_only c.args.text.now (toks c.args.text.now c.deref.result.now) (let P = λ (vs : List Place). Lexes 0 c.args.text.now (toks c.args.text.now vs) in subst P (sym c.deref.ensures.value) c.in_ok-all.ensures) c.in-Err.no c.in-Err.ensures n t

pub returns-clause-refused : goal.returns-clause-refused
returns-clause-refused c = err_refused c.args.text.now (toks c.args.text.now c.deref.result.now) (let P = λ (vs : List Place). Lexes 0 c.args.text.now (toks c.args.text.now vs) in subst P (sym c.deref.ensures.value) c.in_ok-all.ensures) c.in-Err.no c.in-Err.ensures

pub returns-clause-exact : goal.returns-clause-exact
returns-clause-exact c why r = err_exact c.args.text.now (toks c.args.text.now c.deref.result.now) (let P = λ (vs : List Place). Lexes 0 c.args.text.now (toks c.args.text.now vs) in subst P (sym c.deref.ensures.value) c.in_ok-all.ensures) c.in-Err.no c.in-Err.ensures why r

pub returns-in-Ok-clause-spellable : goal.returns-in-Ok-clause-spellable
returns-in-Ok-clause-spellable c =
    subst IsSpellable (sym c.told.ensures) (ok_spellable c.args.text.now (toks c.args.text.now c.deref.result.now) (let P = λ (vs : List Place). Lexes 0 c.args.text.now (toks c.args.text.now vs) in subst P (sym c.deref.ensures.value) c.in_ok-all.ensures) (written_of c.in-Ok.written) (toks c.args.text.now c.in-Ok._rest.now) c.in-Ok.ensures)

pub returns-in-Ok-clause-size : goal.returns-in-Ok-clause-size
returns-in-Ok-clause-size c =
    let P : Narration → Type 0 = λ n. size n ≤ length c.args.text.now in
    subst P (sym c.told.ensures) (text_size (told (written_of c.in-Ok.written)) c.args.text.now (ok_found c.args.text.now (toks c.args.text.now c.deref.result.now) (let P = λ (vs : List Place). Lexes 0 c.args.text.now (toks c.args.text.now vs) in subst P (sym c.deref.ensures.value) c.in_ok-all.ensures) (written_of c.in-Ok.written) (toks c.args.text.now c.in-Ok._rest.now) c.in-Ok.ensures))
