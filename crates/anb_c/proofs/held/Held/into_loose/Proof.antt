-- A walk of `into_loose`. Assumes `Logic`.
use Rattle.std.proofs.Common.{◌≡◌, List, [], ◌∷◌, ◌++◌, refl, Option, Some}
use mir.Syntax.{Fn}
use mir.Val.{Val}
use base.Logic.{SProp, emp}
use prog.Wp.{WpFn}
use contract.Monad.{fact, fact_i}
use contract.Running.{tables}
use types.Kit.{‵, raw, ◌⊛◌, prop, ◌$◌, ◌∵◌, !, qed, by, move, drop, use0, split, rewrite, regoal, fsplit, fjoin}
use types.Part.{whole, sub, agg}
use types.Run.{stop, fld, of_opd, no_more, and_then, returns, enter}
use types.ByLocal.{alloc_all, pass_all, free_all, look_at, get, get_in, sets}
use denote.Exit.{yes}
use denote.RattleType.{RattleType, owns}
use denote.RawPtr.{Ptr, ptr_val}
use denote.Signature.{types_at, plain}
use denote.Steps.{nothing, heard}
use denote.Triple.Entry.{alive}
use denote.Triple.Walked.{Stays, stay_dropped, walk_of}
use Rattle.core.proofs.alloc.Calls.{Goes-blank, handle_tells}
use Rattle.std.proofs.raw_atomic.Walks.{proved_at, leaves}
use Rattle.std.specs.Prelude.{IsSome}
use Rattle.anb_c.specs.declared.session.Session.{Session}
use Rattle.anb_c.specs.contracts.session.Session.{the_row}
use Rattle.anb_c.specs.contracts.held.Held as held
use Rattle.anb_c.specs.Holding.{holds}
use Rattle.anb_c.proofs.Values.{some_of, al, LooseRow, ptr_typed, held_val, held_told, held_typed, both, loose_typed, loose_of}
use Rattle.std.specs.contracts.alloc.Global as heap
use Rattle.std.proofs.alloc.Global.TheLaws as heap_laws
use Rattle.std.specs.contracts.impls.GlobalAllocator.TheImpl.{ghosts}
use Rattle.anb_c.specs.contracts.held.Held.into_loose.{ended, clauses}
use Rattle.anb_c.specs.contracts.held.Held.into_loose.Key.{name as #self}
use Rattle.anb_c.proofs.held.Held.into_loose.Statement.{statement}
use Rattle.anb_c.proofs.held.Held.into_loose.Code as compiled

pub into_loose_spec : {M : Type 1} → statement M
into_loose_spec 𝓤 𝓛 𝓜 𝓡 wired =
    let H = 𝓛.H in
    let c = clauses 𝓛 𝓜.mem 𝓡.returns in
    let fn : Fn = compiled.function in
    let R : RattleType = the_row in
    let Z : RattleType = heap.the_row in
    let LZ = heap_laws.the_row_laws in
    let stays : Stays (ended).signature.params (ended).kept = (stay_dropped (plain (λ _. held.the_row)) yes, (stay_dropped (plain (λ _. Z)) yes, tt)) in
    let C = (tables 𝓤 H 𝓜 𝓡 𝓡.env).C in
    let Λ = (tables 𝓤 H 𝓜 𝓡 𝓡.env).Λ in
    proved_at 𝓛 ended stays c 𝓜 𝓡 (Goes-blank 𝓛 0 (plain (λ _. held.the_row)) yes (λ κs x f. tt), (Goes-blank 𝓛 0 (plain (λ _. Z)) yes (λ κs x f. tt), tt)) #self fn (compiled.unfolded 𝓤 H 𝓜 𝓡 wired) (λ z are.
    let Post : Val → SProp 𝓤 = (walk_of 𝓛 ended stays c).post z in
    let a = z.0.3 in
    let vss = z.0.4 in
    let x = a.0 in
    let g = a.1.0 in
    let p : Ptr = x.at in
    let told = (held_told p vss.0 are.0.0).0 in
    qed 𝓛 ((raw (alive 𝓛 (ended).signature z.0.0 z.0.1) ⊛ ‵ (owns (types_at (ended).signature.params z.0.0) a vss)) ∷ raw (fact 𝓤 (IsSome x.session)) ∷ []) ∵ move ! (1 ∷ []) $ heard ! (IsSome x.session) (λ asked.
    let it = some_of x.session asked in
    split ! $ move ! (1 ∷ []) $ fsplit ! $ fsplit ! $ drop ! $ rewrite ! 0 (λ (h : Option Session). ‵ (holds h p)) it.1 refl $
    -- [what it holds; the allocator; alive]
    move ! (1 ∷ []) $ fsplit ! $ handle_tells (al R Z LZ ghosts) ! g vss.1.0 (λ h eh fits. move ! (1 ∷ []) $ drop ! $
    regoal ! (λ (us : List Val). prop (WpFn 𝓤 H C Λ fn us Post)) (λ i. told i ++ (eh i ++ [])) refl $
    enter ! C Λ fn (held_val p ∷ h ∷ []) Post $
    alloc_all ! (λ l. pass_all ! refl (held_typed p, (fits, tt)) $
    sets ! (of_opd ! (get_in ! (fld ! refl (stop !)) (sub ! 0 refl (whole !)))) refl (ptr_typed p) $
    sets ! (of_opd ! (get ! refl)) refl (ptr_typed p) $
    sets ! (agg ! (and_then ! (get ! refl) (and_then ! (get ! refl) (no_more !)))) refl (loose_typed R Z LZ ghosts p h fits) $
    returns ! (look_at ! 0 refl) $ free_all ! refl $ move ! (1 ∷ []) $
    let y : (LooseRow R Z LZ ghosts).Denot = record { at = p; alloc = g; value = it.0 } in
    loose_of R Z LZ ghosts ! p h g it.0 $ use0 𝓛 (raw (fact 𝓤 (x.session ≡ Some it.0))) (fact_i 𝓤 (x.session ≡ Some it.0) (emp 𝓤) it.1) $ nothing ! $ nothing ! $ fjoin ! $ nothing ! $ fjoin ! $ move ! (3 ∷ 0 ∷ 2 ∷ 1 ∷ []) $
    by ! (leaves 𝓛 ended stays c z (both (ptr_val p) h) y (tt, (tt, tt)) (tt, (tt, tt)))))))
