-- What each command's words say, and that they say nothing else.
use Rattle.std.proofs.Common.{◌≡◌, ℕ, List, [], ◌∷◌, Option, Some, Result, Ok, Err, IfSome, IsErr, true≢false, sym, ap, ap₂, subst}
use Rattle.store_words.specs.Grammar.{AreLines, AreSizes, GiveSizes, Takes, Text}
use Rattle.store_words.specs.Numbers.{IsNumber, IsChannelCount}
use Rattle.store_words.specs.Reading.{IsTaken}
use Rattle.store_words.specs.declared.fault.WordsFault.{WordsFault}
use Rattle.store_words.specs.declared.plan.Plan.{Plan}
use Rattle.store_words.specs.declared.plan.Plan.TheVariants as plan
use Rattle.store_words.specs.declared.plan.WordSizes.{WordSizes}
use Rattle.store_words.specs.declared.verb.Verb.{Verb}
use Rattle.store_words.specs.declared.verb.Verb.TheVariants as verb

-- the one thing that meets P
abbrev pub IsOnly : {A : Type 0} → (A → Type 0) → A → Type 0
IsOnly {A} P x = (y : A) → P y → x ≡ y

-- a reader that found x, and finds all that there is, found the only one
pub only_found : {A : Type 0} (P : A → Type 0) (found : Option A) (x : A) → found ≡ Some x → ((y : A) → P y → found ≡ Some y) → IsOnly P x
only_found P found x is all = λ y holds. let same = all y holds in cc

pub found_holds : {A : Type 0} (P : A → Type 0) (found : Option A) (x : A) → found ≡ Some x → IfSome found P → P x
found_holds P found x is holds = subst (λ o. IfSome o P) is holds

-- the same of a command of which the folder's name was copied
pub kept_as : {v : Verb} {words : List Text} {dir kept : Text} (command : Text → Plan) → kept ≡ dir → IsTaken v words (Ok (command dir)) → IsTaken v words (Ok (command kept))
kept_as {v} {words} command is taken = subst (λ d. IsTaken v words (Ok (command d))) (sym is) taken

-- a pair of numbers that is the only one
pub pair_only : (P : ℕ → ℕ → Type 0) (found : Option (ℕ × ℕ)) (said : ℕ × ℕ) → found ≡ Some said
    → ((a b : ℕ) → P a b → found ≡ Some (a, b)) → IsOnly (λ (y : ℕ × ℕ). P y.0 y.1) said
pair_only P found said is all = λ y holds. let same = all y.0 y.1 holds in cc

given_taken : (v : Verb) (words : List Text) (said : List Text) (command : Plan) → words ≡ said → Takes v said command → IsOnly (Takes v said) command
    → IsTaken v words (Ok command)
given_taken v words said command is spelled only =
    subst (λ ws. IsTaken v ws (Ok command)) (sym is) (record { spelled = spelled; only = only })

pub sizes_only : (minimum maximum use_rate : Text) (found : Option WordSizes)
    → ((sizes : WordSizes) → AreSizes minimum maximum use_rate sizes → found ≡ Some sizes)
    → (sizes : WordSizes) → GiveSizes (minimum ∷ maximum ∷ use_rate ∷ []) sizes → found ≡ Some sizes
sizes_only minimum maximum use_rate found only _ (GiveSizes.given _ _ _ sizes are) = only sizes are

run_only : (dir n : Text) (more : List Text) (channels : ℕ) (sizes : WordSizes) → IsOnly (IsChannelCount n) channels → IsOnly (GiveSizes more) sizes
    → IsOnly (Takes verb.Run (dir ∷ n ∷ more)) (plan.Run dir channels sizes)
run_only dir n more channels sizes only_channels only_sizes _ (Takes.run _ _ _ channels' sizes' a b) =
    ap₂ (plan.Run dir) (only_channels channels' a) (only_sizes sizes' b)

pub run_taken : (words : List Text) (dir n : Text) (more : List Text) (channels : ℕ) (sizes : WordSizes) → words ≡ dir ∷ n ∷ more
    → IsChannelCount n channels → IsOnly (IsChannelCount n) channels → GiveSizes more sizes → IsOnly (GiveSizes more) sizes
    → IsTaken verb.Run words (Ok (plan.Run dir channels sizes))
run_taken words dir n more channels sizes are count only_count give only_give =
    given_taken verb.Run words _ _ are (Takes.run dir n more channels sizes count give) (run_only dir n more channels sizes only_count only_give)

work_only : (dir n w : Text) (more : List Text) (channels workers : ℕ) (sizes : WordSizes) → IsOnly (IsChannelCount n) channels → IsOnly (IsNumber 1 16 w) workers
    → IsOnly (GiveSizes more) sizes → IsOnly (Takes verb.Work (dir ∷ n ∷ w ∷ more)) (plan.Work dir channels workers sizes)
work_only dir n w more channels workers sizes only_channels only_workers only_sizes _ (Takes.work _ _ _ _ channels' workers' sizes' a k b) =
    λ i. plan.Work dir (only_channels channels' a i) (only_workers workers' k i) (only_sizes sizes' b i)

pub work_taken : (words : List Text) (dir n w : Text) (more : List Text) (channels workers : ℕ) (sizes : WordSizes) → words ≡ dir ∷ n ∷ w ∷ more
    → IsChannelCount n channels → IsOnly (IsChannelCount n) channels → IsNumber 1 16 w workers → IsOnly (IsNumber 1 16 w) workers
    → GiveSizes more sizes → IsOnly (GiveSizes more) sizes → IsTaken verb.Work words (Ok (plan.Work dir channels workers sizes))
work_taken words dir n w more channels workers sizes are count only_count some only_some give only_give =
    given_taken verb.Work words _ _ are (Takes.work dir n w more channels workers sizes count some give)
    (work_only dir n w more channels workers sizes only_count only_some only_give)

check_only : (dir n : Text) (channels : ℕ) → IsOnly (IsChannelCount n) channels → IsOnly (Takes verb.Check (dir ∷ n ∷ [])) (plan.Check dir channels)
check_only dir n channels only_channels _ (Takes.check _ _ channels' a) = ap (plan.Check dir) (only_channels channels' a)

pub check_taken : (words : List Text) (dir n : Text) (channels : ℕ) → words ≡ dir ∷ n ∷ [] → IsChannelCount n channels → IsOnly (IsChannelCount n) channels
    → IsTaken verb.Check words (Ok (plan.Check dir channels))
check_taken words dir n channels are count only_count =
    given_taken verb.Check words _ _ are (Takes.check dir n channels count) (check_only dir n channels only_count)

export_only : (dir n : Text) (channels : ℕ) → IsOnly (IsChannelCount n) channels → IsOnly (Takes verb.Export (dir ∷ n ∷ [])) (plan.Export dir channels)
export_only dir n channels only_channels _ (Takes.export _ _ channels' a) = ap (plan.Export dir) (only_channels channels' a)

pub export_taken : (words : List Text) (dir n : Text) (channels : ℕ) → words ≡ dir ∷ n ∷ [] → IsChannelCount n channels → IsOnly (IsChannelCount n) channels
    → IsTaken verb.Export words (Ok (plan.Export dir channels))
export_taken words dir n channels are count only_count =
    given_taken verb.Export words _ _ are (Takes.export dir n channels count) (export_only dir n channels only_count)

-- LINES and NUMBER, as one pair
abbrev pub ArePair : Text → Text → ℕ × ℕ → Type 0
ArePair lines number said = AreLines lines number said.0 said.1

generate_only : (lines number : Text) (said : ℕ × ℕ) → IsOnly (ArePair lines number) said
    → IsOnly (Takes verb.Generate (lines ∷ number ∷ [])) (plan.Generate said.0 said.1)
generate_only lines number said only_said _ (Takes.generate _ _ count start a) =
    ap (λ (p : ℕ × ℕ). plan.Generate p.0 p.1) (only_said (count, start) a)

pub generate_taken : (words : List Text) (lines number : Text) (said : ℕ × ℕ) → words ≡ lines ∷ number ∷ [] → ArePair lines number said → IsOnly (ArePair lines number) said
    → IsTaken verb.Generate words (Ok (plan.Generate said.0 said.1))
generate_taken words lines number said are pair only_pair =
    given_taken verb.Generate words _ _ are (Takes.generate lines number said.0 said.1 pair) (generate_only lines number said only_pair)

trial_only : (dir n lines number : Text) (channels : ℕ) (said : ℕ × ℕ) → IsOnly (IsChannelCount n) channels → IsOnly (ArePair lines number) said
    → IsOnly (Takes verb.Trial (dir ∷ n ∷ lines ∷ number ∷ [])) (plan.Trial dir channels said.0 said.1)
trial_only dir n lines number channels said only_channels only_said _ (Takes.trial _ _ _ _ channels' count start a b) =
    λ i. plan.Trial dir (only_channels channels' a i) (only_said (count, start) b i).0 (only_said (count, start) b i).1

pub trial_taken : (words : List Text) (dir n lines number : Text) (channels : ℕ) (said : ℕ × ℕ) → words ≡ dir ∷ n ∷ lines ∷ number ∷ []
    → IsChannelCount n channels → IsOnly (IsChannelCount n) channels → ArePair lines number said → IsOnly (ArePair lines number) said
    → IsTaken verb.Trial words (Ok (plan.Trial dir channels said.0 said.1))
trial_taken words dir n lines number channels said are count only_count pair only_pair =
    given_taken verb.Trial words _ _ are (Takes.trial dir n lines number channels said.0 said.1 count pair)
    (trial_only dir n lines number channels said only_count only_pair)

trial_lines : (dir n lines number : Text) (command : Plan) → Takes verb.Trial (dir ∷ n ∷ lines ∷ number ∷ []) command
    → (count : ℕ) × (start : ℕ) × AreLines lines number count start
trial_lines dir n lines number _ (Takes.trial _ _ _ _ _ count start _ are) = (count, start, are)

-- where the lines are none, an error is right
pub trial_refused : (words : List Text) (dir n lines number : Text) (r : Result Plan WordsFault) → words ≡ dir ∷ n ∷ lines ∷ number ∷ []
    → ((count start : ℕ) → AreLines lines number count start → ⊥) → IsErr r → IsTaken verb.Trial words r
trial_refused words dir n lines number (Ok given) is none err = absurd (true≢false (sym err))
trial_refused words dir n lines number (Err fault) is none err = record {
  spelled = tt;
  only = λ command takes.
      let said = trial_lines dir n lines number command (subst (λ ws. Takes verb.Trial ws command) is takes) in
      absurd (none said.0 said.1 said.2);
}
