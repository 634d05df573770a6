use Rattle.std.proofs.Common.{◌≡◌, ◌∙◌, ℕ, List, Err, ap, subst, sym}
use Rattle.std.proofs.lemmas.Bool.{ltb-true}
use Rattle.std.specs.Prelude.{Some}
use Rattle.std.specs.List.{slice_get}
use Rattle.anb_recording.specs.Journals.{OthersStay}
use Rattle.anb_stage_commands.specs.Records.{put_to}
use Rattle.anb_stage_commands.specs.Telling.{all_names, lined_at}
use Rattle.anb_stage_commands.proofs.Logged.{goes_failed, goes_put, goes_wanting, got_below, got_here, others_lined, put_lined}
use Rattle.anb_stage_commands.proofs.record.append_at.Goals as goal

pub returns-in-Ok : goal.returns-in-Ok
returns-in-Ok g c =
    let files = c.args.files.now in
    let both = c.in-Some.both.now in
    let old = g.J.Store.state c.args.journal.now in
    let new = g.J.Store.state c.append.new.self in
    let at : slice_get files c.args.place ≡ Some both = got_here files c.args.place both (ltb-true _ _ (sym c.in-Some.ensures.lookup.0)) c.in-Some.ensures.lookup.1 in
    goes_put files (λ store. put_to store (lined_at (all_names files) c.args.place) c.args.line.now) old new
    (put_lined files c.args.place both c.args.line.now at old new (rw c.as_str.ensures at c.in-Ok.ensures.appended)) (c.in-Ok.ensures.quiet (λ is. cc))
    (others_lined files c.args.place both at old new (subst (λ (n : List ℕ). OthersStay (λ other. other ≡ n) old new) c.as_str.ensures c.append.ensures.others))

pub returns-in-Err-Failed : goal.returns-in-Err-Failed
returns-in-Err-Failed g c =
    let files = c.args.files.now in
    let both = c.in-Some.both.now in
    let old = g.J.Store.state c.args.journal.now in
    let new = g.J.Store.state c.append.new.self in
    let at : slice_get files c.args.place ≡ Some both = got_here files c.args.place both (ltb-true _ _ (sym c.in-Some.ensures.lookup.0)) c.in-Some.ensures.lookup.1 in
    let err = c.in-Err-Failed.is ∙ ap Err c.in-Err-Failed.field-0-is in
    goes_failed files (λ store. put_to store (lined_at (all_names files) c.args.place) c.args.line.now) old new c.args.place (got_below files c.args.place both at) (c.append.ensures.cause err)
    c.append.ensures.never_falls (others_lined files c.args.place both at old new (subst (λ (n : List ℕ). OthersStay (λ other. other ≡ n) old new) c.as_str.ensures c.append.ensures.others))

pub returns-in-Err-NoMemory : goal.returns-in-Err-NoMemory
returns-in-Err-NoMemory g c =
    let files = c.args.files.now in
    let both = c.in-Some.both.now in
    let old = g.J.Store.state c.args.journal.now in
    let new = g.J.Store.state c.append.new.self in
    let at : slice_get files c.args.place ≡ Some both = got_here files c.args.place both (ltb-true _ _ (sym c.in-Some.ensures.lookup.0)) c.in-Some.ensures.lookup.1 in
    let err = c.in-Err-NoMemory.is ∙ ap Err c.in-Err-NoMemory.field-0-is in
    goes_wanting files (λ store. put_to store (lined_at (all_names files) c.args.place) c.args.line.now) old new (c.append.ensures.quiet (λ is. let never = sym err ∙ is in cc))
    (others_lined files c.args.place both at old new (subst (λ (n : List ℕ). OthersStay (λ other. other ≡ n) old new) c.as_str.ensures c.append.ensures.others))
