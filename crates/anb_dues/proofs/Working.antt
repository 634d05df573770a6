-- A work in terms and in their values: where it writes terms, it writes their values.
use Rattle.std.proofs.Common.{◌≡◌, ℕ, ◌+◌, List, [], ◌∷◌, ◌++◌, length, map, Bool, true, false, cond, IsTrue, Option, Some, None, refl, sym, ap, ◌∙◌, arith}
use Rattle.std.specs.Option.{option_map, option_and_then}
use Rattle.anb_term.specs.FreeAlgebra.{terms, terms_over}
use Rattle.anb_term.specs.Lawful.{Lawful}
use Rattle.anb_term.specs.Tree.{Tree, trees_of, AreFormed}
use Rattle.anb_term.specs.Value.{Meaning}
use Rattle.anb_plays.specs.Codes.{Act, works, Work}
use Rattle.anb_plays.specs.Exec.{exec, on_written, worked, count_written, IsReady}
use Rattle.anb_plays.specs.Honest.{honest}
use Rattle.anb_plays.specs.Plays.{Played, stopped, done, ends}
use Rattle.anb_plays.specs.Statements.{HonestAgree}
use Rattle.anb_probe.specs.Cases.{IsOver}
use Rattle.anb_openings.specs.Steps.{Progress, writing, after_all}
use Rattle.anb_openings.proofs.Stepping.{worked_same}
use Rattle.anb_openings.proofs.Valued.{all_went, seen}
use Rattle.anb_dues.proofs.Firsts.{Text}

-- what is written where a run that is over goes on
over_written : {A B : Type 0} (o : Option (List B)) (f : List B → Played A) (e at : ℕ) (left : List A) → IsOver (on_written o f (ends (stopped e at) left)) → (ws : List B) × (o ≡ Some ws)
over_written None f e at left over = (let never : stopped e at ≡ done = over.end in absurd (cc))
over_written (Some ws) f e at left over = (ws, refl)

-- a comparison writes nothing
pub none_written : {A : Type 0} (b : Bool) (ws : List A) → cond b (Some []) None ≡ Some ws → ws ≡ []
none_written true ws e = cc
none_written false ws e = absurd (cc)

-- a run through a work goes on with what it writes
pub on_work : {A : Type 0} (k : Meaning A) (d : ℕ → A) (w : Work) (P : List Act) (table ws all : List A) (e at i : ℕ) (xs : List A) → worked k table w ≡ Some ws → table ++ ws ≡ all → exec k d (works w ∷ P) table e at i xs ≡ exec k d P all e (at + 1) i xs
on_work k d w P table ws all e at i xs is joined =
    ap (λ o. on_written o (λ x. exec k d P (table ++ x) e (at + 1) i xs) (ends (stopped e (at + 1)) xs)) is ∙ ap (λ l. exec k d P l e (at + 1) i xs) joined

module _ (m : Meaning Text) (lawful : Lawful m) (agrees : HonestAgree m) (atoms : ℕ → Text) (good : (n : ℕ) → IsTrue (m.is_value (atoms n))) where
  abbrev of : Tree → Text
  of t = honest m atoms t

  -- in terms it writes these, and in values their values
  pub record WorksOn (table : List Tree) (w : Work) : Type 0 where
    pub ws : List Tree
    pub written : worked (terms_over m.has) table w ≡ Some ws
    pub values : List Text
    pub valued : worked m (map of table) w ≡ Some values
    pub joined : map of table ++ values ≡ map of (table ++ ws)
    pub formed : AreFormed m.has (trees_of (table ++ ws))
    pub long : length table + count_written w ≡ length (table ++ ws)

  works_on : (table : List Tree) (w : Work) (ws : List Tree) → AreFormed m.has (trees_of table) → IsReady m.has (length table) w → worked (terms_over m.has) table w ≡ Some ws → WorksOn table w
  works_on table w ws formed ready e =
      let s : Progress Tree = record { table = table; sent = []; event = 0; drawn = 0; left = [] } in
      let goes : after_all terms [] (works w ∷ []) s ≡ Some (writing ws s) = ap (λ o. option_and_then (after_all terms [] []) (option_map (λ x. writing x s) o)) (sym (worked_same m.has table w) ∙ e) in
      let went = all_went m lawful agrees atoms good [] tt (works w ∷ []) s (writing ws s) formed tt (ready, tt) goes in
      let o = worked m (map of table) w in
      let known : option_and_then (after_all m [] []) (option_map (λ x. writing x (seen m lawful agrees atoms good s)) o) ≡ Some (seen m lawful agrees atoms good (writing ws s)) = went.valued in
      let v = written_as o (seen m lawful agrees atoms good s) (seen m lawful agrees atoms good (writing ws s)) known in
      record { ws = ws; written = e; values = v.0; valued = v.1; joined = ap (λ (t : Progress Text). t.table) v.2; formed = went.table; long = (let l = went.long in omega (arith, l)) } where
        written_as : (o : Option (List Text)) (s t : Progress Text) → option_and_then (after_all m [] []) (option_map (λ x. writing x s) o) ≡ Some t → (values : List Text) × (o ≡ Some values) × (writing values s ≡ t)
        written_as None s t e = absurd (cc)
        written_as (Some values) s t e = (values, refl, cc)

  -- so where a run over terms that is over comes to it
  pub works_over : (term_draw : ℕ → Tree) (table : List Tree) (w : Work) (P : List Act) (e at i : ℕ) (ps : List Tree) → AreFormed m.has (trees_of table) → IsReady m.has (length table) w
      → IsOver (exec (terms_over m.has) term_draw (works w ∷ P) table e at i ps) → WorksOn table w
  works_over term_draw table w P e at i ps formed ready over =
      let o = over_written (worked (terms_over m.has) table w) (λ ws. exec (terms_over m.has) term_draw P (table ++ ws) e (at + 1) i ps) e (at + 1) ps over in
      works_on table w o.0 formed ready o.1
