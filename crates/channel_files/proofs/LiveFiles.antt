-- Files that are live stay live over a Creation, and over an entry that sets a length.
use Rattle.std.proofs.Common.{◌≡◌, ℕ, true, List, [], ◌∷◌, ◌++◌, ◌∙◌, ap}
use Rattle.transactions_file.specs.Files.{is_live, set_length}
use Rattle.transactions_file.specs.Inventory.{State}
use Rattle.transactions_file.proofs.Lengths.{live_set, live_push, live_push_same}
use Rattle.channel_files.proofs.Within.{by_file}

pub live_created : (s : State) (files : List (ℕ × ℕ)) (f : ℕ) → s.files ≡ files ++ (f, 0) ∷ [] → (g : ℕ) → is_live files g ≡ true → is_live s.files g ≡ true
live_created s files f is g live =
    ap (λ (l : List (ℕ × ℕ)). is_live l g) is
    ∙ by_file (λ g. is_live files g ≡ true → is_live (files ++ (f, 0) ∷ []) g ≡ true) f (λ _. live_push_same files f) (λ g ne live. live_push files f g ne ∙ live) g live

pub live_resized : (s : State) (files : List (ℕ × ℕ)) (f n : ℕ) → s.files ≡ set_length files f n → (g : ℕ) → is_live files g ≡ true → is_live s.files g ≡ true
live_resized s files f n is g live = ap (λ (l : List (ℕ × ℕ)). is_live l g) is ∙ live_set files f n g ∙ live
