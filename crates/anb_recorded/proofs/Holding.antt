-- What files hold once one was replaced.
use Rattle.std.proofs.Common.{◌≡◌, ◌≢◌, ℕ, List, Some, refl}
use Rattle.anb_lemmas.proofs.Items.{bytes_differ, bytes_eq-same}
use Rattle.anb_store.specs.Stores.{with_file}
use Rattle.anb_recording.specs.Journals.{Files}

pub with_same : (files : Files) (name content : List ℕ) → with_file files name content name ≡ Some content
with_same files name content = rw (bytes_eq-same name) refl

pub with_other : (files : Files) (name content other : List ℕ) → other ≢ name → with_file files name content other ≡ files other
with_other files name content other differ = rw (bytes_differ other name differ) refl
