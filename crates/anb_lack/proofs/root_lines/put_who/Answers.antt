use Rattle.std.proofs.Common.{◌++◌, List, ℕ, length, ap, ◌∙◌, sym, subst, arith, append_assoc}
use Rattle.std.specs.Prelude.{codes}
use Rattle.anb_term.specs.View.{tree_of}
use Rattle.anb_protocol.specs.Texts.{term_text}
use Rattle.anb_lack.specs.Roots.{doers, knows, makes}
use Rattle.anb_lack.specs.Rows.{IsColumn}
use Rattle.anb_lack.proofs.Telling.{told_made, told_known, told_nobody}
use Rattle.anb_lack.proofs.root_lines.put_who.Goals as goal

pub put_doers-requires-clause-column : goal.put_doers-requires-clause-column
put_doers-requires-clause-column c =
    let p = c.args.protocol.now in
    let does = knows p (tree_of c.args.term.now) in
    (does, subst (λ (ns : List (List ℕ)). IsColumn c.args.i (length ns) does c.args.knowing.now) (sym c.roles.ensures) c.requires.knowing)

pub put_doers-requires-2-clause-column : goal.put_doers-requires-2-clause-column
put_doers-requires-2-clause-column c =
    let p = c.args.protocol.now in
    let does = makes p (tree_of c.args.term.now) in
    (does, subst (λ (ns : List (List ℕ)). IsColumn c.args.i (length ns) does c.args.making.now) (sym c.roles-2.ensures) c.requires.making)

pub returns-then-len-before : goal.returns-then-len-before
returns-then-len-before c =
    let p = c.args.protocol.now in
    let k = tree_of c.args.term.now in
    let does = knows p k in
    let column = subst (λ (ns : List (List ℕ)). IsColumn c.args.i (length ns) does c.args.knowing.now) (sym c.roles.ensures) c.requires.knowing in
    let put = c.in_ok-put_doers.ensures does column ∙ ap (λ ns. c.args.out.now.items ++ doers does (codes " knows ") c.args.key.now 0 ns) c.roles.ensures ∙ ap (λ t. c.args.out.now.items ++ doers does (codes " knows ") t 0 p.roles) c.requires.key in
    told_known p k c.args.out.now.items c.put_doers.new.out.items put (omega (arith, c.len-before.ensures, c.len.ensures, c.if-len-before.true))

pub returns-then-len-before-2 : goal.returns-then-len-before-2
returns-then-len-before-2 c =
    let p = c.args.protocol.now in
    let k = tree_of c.args.term.now in
    let does = knows p k in
    let column = subst (λ (ns : List (List ℕ)). IsColumn c.args.i (length ns) does c.args.knowing.now) (sym c.roles.ensures) c.requires.knowing in
    let put = c.in_ok-put_doers.ensures does column ∙ ap (λ ns. c.args.out.now.items ++ doers does (codes " knows ") c.args.key.now 0 ns) c.roles.ensures ∙ ap (λ t. c.args.out.now.items ++ doers does (codes " knows ") t 0 p.roles) c.requires.key in
    let makers = makes p k in
    let also = subst (λ (ns : List (List ℕ)). IsColumn c.args.i (length ns) makers c.args.making.now) (sym c.roles-2.ensures) c.requires.making in
    let more = c.in_ok-put_doers-2.ensures makers also ∙ ap (λ ns. c.put_doers.new.out.items ++ doers makers (codes " makes ") c.args.key.now 0 ns) c.roles-2.ensures ∙ ap (λ t. c.put_doers.new.out.items ++ doers makers (codes " makes ") t 0 p.roles) c.requires.key in
    told_made p k c.args.out.now.items c.put_doers.new.out.items put c.put_doers-2.new.out.items (omega (arith, c.len-before.ensures, c.len.ensures, c.if-len-before.false)) more (omega (arith, c.len-before.ensures, c.len-2.ensures, c.if-len-before-2.true))

pub returns : goal.returns
returns c =
    let p = c.args.protocol.now in
    let k = tree_of c.args.term.now in
    let does = knows p k in
    let column = subst (λ (ns : List (List ℕ)). IsColumn c.args.i (length ns) does c.args.knowing.now) (sym c.roles.ensures) c.requires.knowing in
    let put = c.in_ok-put_doers.ensures does column ∙ ap (λ ns. c.args.out.now.items ++ doers does (codes " knows ") c.args.key.now 0 ns) c.roles.ensures ∙ ap (λ t. c.args.out.now.items ++ doers does (codes " knows ") t 0 p.roles) c.requires.key in
    let makers = makes p k in
    let also = subst (λ (ns : List (List ℕ)). IsColumn c.args.i (length ns) makers c.args.making.now) (sym c.roles-2.ensures) c.requires.making in
    let more = c.in_ok-put_doers-2.ensures makers also ∙ ap (λ ns. c.put_doers.new.out.items ++ doers makers (codes " makes ") c.args.key.now 0 ns) c.roles-2.ensures ∙ ap (λ t. c.put_doers.new.out.items ++ doers makers (codes " makes ") t 0 p.roles) c.requires.key in
    let nobody = c.in_ok-put-2.ensures ∙ ap (λ l. c.put.new.out.items ++ l) (c.as_str.ensures ∙ c.requires.key) ∙ ap (λ l. l ++ term_text p k) c.in_ok-put.ensures ∙ append_assoc c.put_doers-2.new.out.items (codes "; nobody knows ") (term_text p k) in
    told_nobody p k c.args.out.now.items c.put_doers.new.out.items put c.put_doers-2.new.out.items _ (omega (arith, c.len-before.ensures, c.len.ensures, c.if-len-before.false)) more (omega (arith, c.len-before.ensures, c.len-2.ensures, c.if-len-before-2.false)) nobody
