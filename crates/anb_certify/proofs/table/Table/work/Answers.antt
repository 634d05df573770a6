use Rattle.std.proofs.Common.{◌≡◌, ◌++◌, ◌∷◌, [], ℕ, List, length, map, sym, ap, ◌∙◌, arith}
use Rattle.anb_intern.proofs.Nodes.{operands_long}
use Rattle.anb_plays.specs.Codes.{Work}
use Rattle.anb_term.proofs.Lists.{map-append}
use Rattle.anb_certify.specs.Works.{did_of, work_of}
use Rattle.anb_certify.specs.Numbered.{did_in, terms_in}
use Rattle.anb_certify.specs.Progress.{found_in}
use Rattle.anb_certify.proofs.Progressing.{work_comes}
use Rattle.anb_certify.proofs.table.Table.work.Goals as goal

pub returns-clause-works : goal.returns-clause-works
returns-clause-works c e =
    let s = c.args.self.now in
    let wrote = c.in_ok-works.ensures.written.1 e in
    let D : ℕ → List (ℕ × Work) = λ n. did_in s ++ (n, work_of c.args.job) ∷ [] in
    let at : c.len-at.result ≡ length s.ids.items = omega (arith, c.len-at.ensures, s.ids.ok.0) in
    let B : ℕ → List (ℕ × Work) = λ n. did_in s ++ (n, work_of c.args.job) ∷ [] in
    record {
      wrote = wrote.0;
      worked = wrote.1;
      terms = wrote.2;
      did = ap (map did_of) c.in_ok-push.ensures.items ∙ map-append did_of c.write.new.self.done.items (_ ∷ []) ∙ ap (λ l. l ++ (c.len-at.result, work_of c.args.job) ∷ []) wrote.3 ∙ ap B at
          ∙ ap D (sym (operands_long s.pool s.ids.items));
    }

pub returns-clause-table : goal.returns-clause-table
returns-clause-table c =
    let t = c.in_ok-works.ensures.table in
    let w = c.write.new.self in
    record {
      under = t.under;
      progress = work_comes w.ids.items (terms_in w) (did_in w) _ ((c.len-at.result, work_of c.args.job) ∷ []) (found_in w.progress) (ap (map did_of) c.in_ok-push.ensures.items ∙ map-append did_of w.done.items (_ ∷ [])) t.progress;
    }

pub overflow_cast-at : goal.overflow_cast-at
overflow_cast-at c =
    let s = c.args.self.now in
    let at : c.len-at.result ≡ length s.ids.items = omega (arith, c.len-at.ensures, s.ids.ok.0) in
    omega (arith, c.requires.few, operands_long s.pool s.ids.items, at)
