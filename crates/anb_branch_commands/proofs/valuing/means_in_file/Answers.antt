use Rattle.std.proofs.Common.{length, ap, ◌∙◌}
use Rattle.anb_choice.specs.Views.{branched_of}
use Rattle.anb_command.proofs.Failing.{IsFailure-map}
use Rattle.anb_branch_commands.proofs.Preparing.{means_given, seed_refused, values_refused}
use Rattle.anb_branch_commands.proofs.Seats.{draws_in, takes_all}
use Rattle.anb_branch_commands.proofs.valuing.means_in_file.Goals as goal

pub returns-in-Err-values_in_file-clause-refused : goal.returns-in-Err-values_in_file-clause-refused
returns-in-Err-values_in_file-clause-refused g c =
    let words = c.args.words in
    let s = c.in-Err-values_in_file.status in
    IsFailure-map s _ _ _ _ (λ file at. at)
    (λ is. values_refused (g.F.Shelf.files c.args.shelf.now) words.play.name.now words.play.values.now words.told c.args.host_seed (branched_of c.args.b.now) c.deref.result.now (c.deref.ensures.value ∙ c.in-Ok.ensures.texts) s is)
    c.in-Err-values_in_file.ensures.refused

pub returns-in-Ok-seed_of-clause-given : goal.returns-in-Ok-seed_of-clause-given
returns-in-Ok-seed_of-clause-given g c =
    let words = c.args.words in
    let b = branched_of c.args.b.now in
    means_given (g.F.Shelf.files c.args.shelf.now) words.play.name.now words.play.values.now words.told c.args.host_seed b c.deref.result.now (c.deref.ensures.value ∙ c.in-Ok.ensures.texts)
    c.in-Ok-values_in_file.fitted c.in-Ok-values_in_file.ensures.given c.draws_somewhere.result (c.draws_somewhere.ensures ∙ draws_in b.arms words.play.name.now c.args.codes.now c.requires.fit) c.in-Ok-seed_of.seed c.in-Ok-seed_of.ensures.given

pub returns-in-Ok-seed_of-clause-armed : goal.returns-in-Ok-seed_of-clause-armed
returns-in-Ok-seed_of-clause-armed g c =
    let b = branched_of c.args.b.now in
    let fitted = c.in-Ok-values_in_file.fitted in
    let known = c.in-Ok-values_in_file.ensures.each ∙ ap length (c.deref.ensures.value ∙ c.in-Ok.ensures.texts) in
    record {
      seated = c.requires;
      known = known;
      count = takes_all c.arms_know_alike.ensures b c.args.words.play.name.now c.args.codes.now fitted.values c.requires.lawful c.requires.is_role c.requires.fit known;
      short = c.in-Ok-values_in_file.ensures.short;
    }

pub returns-clause-refused : goal.returns-clause-refused
returns-clause-refused g c =
    let words = c.args.words in
    let b = branched_of c.args.b.now in
    let s = c.in-Err-seed_of.status in
    IsFailure-map s _ _ _ _ (λ file never. absurd never)
    (λ is. seed_refused (g.F.Shelf.files c.args.shelf.now) words.play.name.now words.play.values.now words.told c.args.host_seed b c.deref.result.now (c.deref.ensures.value ∙ c.in-Ok.ensures.texts)
    c.in-Ok-values_in_file.fitted c.in-Ok-values_in_file.ensures.given c.draws_somewhere.result (c.draws_somewhere.ensures ∙ draws_in b.arms words.play.name.now c.args.codes.now c.requires.fit) s is)
    c.in-Err-seed_of.ensures.refused
