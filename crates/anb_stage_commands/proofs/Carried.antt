-- What a log is told of a scene's relay.
use Rattle.std.proofs.Common.{◌≡◌, ℕ, List, length, Option, sym, ◌∙◌, subst}
use Rattle.std.proofs.lemmas.List.{length-map}
use Rattle.anb_base.specs.declared.content.Sent.{Sent}
use Rattle.anb_frame.specs.Cuts.{Tail}
use Rattle.anb_stage.specs.Children.{Child}
use Rattle.anb_stage.specs.Notes.{IsTold, Note, notes_of}
use Rattle.anb_stage.specs.Relays.{AreCut, ends_in, ends_of, report}
use Rattle.anb_stage.specs.declared.refusal.RelayNo.{RelayNo}
use Rattle.anb_store.specs.Stores.{StoreState}
use Rattle.anb_status.specs.declared.status.Status.{Status}
use Rattle.anb_stage_commands.specs.Keeping.{WentThrough}
use Rattle.anb_stage_commands.specs.Records.{AreAll, AreSoFar, last_line, put_to}
use Rattle.anb_stage_commands.specs.Scenes.{Scene}
use Rattle.anb_stage_commands.specs.StageCommand.{status_after}
use Rattle.anb_stage_commands.specs.Telling.{Goes, all_names, all_put, goes_further, lined_at}
use Rattle.anb_stage_commands.specs.declared.files.Both.{Both}
use Rattle.anb_stage_commands.specs.declared.record.Lack.{Lack}

module _ (z : Scene) (n : ℕ) (count : n ≡ length z.protocol.roles) (old : ℕ → Child) where
  pub all_of : (sent : List Sent) → length sent ≡ length (ends_in z.protocol)
      → ((outputs : ℕ → List (List ℕ)) (tails : ℕ → Tail) → AreCut n old outputs tails → sent ≡ report outputs (ends_in z.protocol))
      → AreAll z old sent
  all_of sent many tells = record {
    count = many ∙ length-map z.protocol.actions ends_of;
    tells = λ outputs tails cut. tells outputs tails (subst (λ (m : ℕ). AreCut m old outputs tails) (sym count) cut);
  }

pub so_far : (limit : Option ℕ) (z : Scene) (n : ℕ) → n ≡ length z.protocol.roles → (old new : ℕ → Child) (told : List Note) (r : RelayNo) (status : Status)
    → status ≡ status_after limit new z.protocol r → IsTold (ends_in z.protocol) n old r told → AreSoFar limit z old new told status
so_far limit z n count old new told r status is are = record {
  refusal = r;
  is = is;
  are = subst (λ (m : ℕ). IsTold (ends_in z.protocol) m old r told) count are;
}

-- all were handed on, and then how many there are was said
pub went_through : (limit : Option ℕ) (z : Scene) (old new : ℕ → Child) (files mid : List Both) (a b c : StoreState) (k l m : Lack) (sent : List Sent) (count : ℕ)
    → mid ≡ files → AreAll z old sent → Goes files a b k l (all_put (all_names files) (notes_of (ends_in z.protocol) sent))
    → count ≡ length z.protocol.actions → Goes mid b c l m (λ store. put_to store (lined_at (all_names mid) 0) (last_line count))
    → WentThrough limit z old new files a c k m
went_through limit z old new files mid a b c k l m sent count same all one many two =
    let last : Goes files b c l m (λ store. put_to store (lined_at (all_names files) 0) (last_line (length sent))) =
    subst (λ (n : ℕ). Goes files b c l m (λ store. put_to store (lined_at (all_names files) 0) (last_line n))) (many ∙ sym all.count)
    (subst (λ (f : List Both). Goes f b c l m (λ store. put_to store (lined_at (all_names f) 0) (last_line count))) same two) in (
      sent,
      all,
      goes_further files a b c k l m (all_put (all_names files) (notes_of (ends_in z.protocol) sent)) (λ store. put_to store (lined_at (all_names files) 0) (last_line (length sent))) one last,
    )
