-- What a shelf holds, where its files are told.
use Rattle.std.specs.Prelude.{◌≡◌, ℕ, ◌<◌, List, length, Option, Some, None}

-- the file of this name has this content
abbrev pub Holds : Option (List ℕ → Option (List ℕ)) → List ℕ → List ℕ → Type 0
Holds None name content = Unit {0}
Holds (Some files) name content = files name ≡ Some content

-- the file of this name has more bytes than the limit
abbrev pub HoldsLonger : Option (List ℕ → Option (List ℕ)) → List ℕ → ℕ → Type 0
HoldsLonger None name limit = Unit {0}
HoldsLonger (Some files) name limit =
    (content : List ℕ) × (files name ≡ Some content) × (limit < length content)
