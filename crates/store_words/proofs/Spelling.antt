-- From the words behind a command's name to all words.
use Rattle.std.proofs.Common.{◌≡◌, ◌⊎◌, Bool, true, false, List, [], ◌∷◌, Option, Some, None, Result, Ok, Err, refl, sym, ap, subst, ◌∙◌, true≢false, cond, codes, inl, inr}
use Rattle.std.specs.List.{list_all}
use Rattle.std.specs.Str.{bytes_eq}
use Rattle.std.proofs.lemmas.Slice.Eq.{bytes_eq-Decides}
use Rattle.store_words.specs.ClapCommands.{fits_count, some_words}
use Rattle.store_words.specs.Grammar.{GiveSizes, Spell, Takes, Text, is_plain}
use Rattle.store_words.specs.Reading.{IsPlanned, IsTaken}
use Rattle.store_words.specs.Verbs.{name_of, verb_named}
use Rattle.store_words.specs.declared.fault.WordsFault.{WordsFault}
use Rattle.store_words.specs.declared.fault.WordsFault.TheVariants.{NoMemory}
use Rattle.store_words.specs.declared.plan.Plan.{Plan}
use Rattle.store_words.specs.declared.plan.WordSizes.{WordSizes}
use Rattle.store_words.specs.declared.verb.Verb.{Verb}
use Rattle.store_words.specs.declared.verb.Verb.TheVariants as verb

-- a command's name names it
pub named_back : (v : Verb) → verb_named (name_of v) ≡ Some v
named_back verb.Run = refl
named_back verb.Work = refl
named_back verb.Check = refl
named_back verb.Export = refl
named_back verb.Generate = refl
named_back verb.Trial = refl

-- a choice that came out right was made here or further on
pick : (b : Bool) (x v : Verb) (next : Option Verb) → cond b (Some x) next ≡ Some v → ((b ≡ true) × (x ≡ v)) ⊎ (next ≡ Some v)
pick true x v next e = inl (refl, cc)
pick false x v next e = inr e

is_name : (word : Text) (x v : Verb) → bytes_eq word (name_of x) ≡ true → x ≡ v → word ≡ name_of v
is_name word x v same e = (bytes_eq-Decides word (name_of x)).0 same ∙ ap name_of e

-- what names a command is its name
pub named_is : (word : Text) (v : Verb) → verb_named word ≡ Some v → word ≡ name_of v
named_is word v e = elim (pick (bytes_eq word (codes "run")) verb.Run v _ e) [
  | inl h ↦ is_name word verb.Run v h.0 h.1
  | inr e2 ↦ elim (pick (bytes_eq word (codes "work")) verb.Work v _ e2) [
    | inl h ↦ is_name word verb.Work v h.0 h.1
    | inr e3 ↦ elim (pick (bytes_eq word (codes "check")) verb.Check v _ e3) [
      | inl h ↦ is_name word verb.Check v h.0 h.1
      | inr e4 ↦ elim (pick (bytes_eq word (codes "export")) verb.Export v _ e4) [
        | inl h ↦ is_name word verb.Export v h.0 h.1
        | inr e5 ↦ elim (pick (bytes_eq word (codes "generate")) verb.Generate v _ e5) [
          | inl h ↦ is_name word verb.Generate v h.0 h.1
          | inr e6 ↦ elim (pick (bytes_eq word (codes "trial")) verb.Trial v _ e6) [
            | inl h ↦ is_name word verb.Trial v h.0 h.1
            | inr none ↦ absurd cc
          ]
        ]
      ]
    ]
  ]
]

-- what is said behind a command's name has the right count of words
run_counted : (more : List Text) (sizes : WordSizes) (dir n : Text) → GiveSizes more sizes → fits_count verb.Run (dir ∷ n ∷ more) ≡ true
run_counted _ _ dir n GiveSizes.default = refl
run_counted _ _ dir n (GiveSizes.given a b c sizes are) = refl

work_counted : (more : List Text) (sizes : WordSizes) (dir n w : Text) → GiveSizes more sizes → fits_count verb.Work (dir ∷ n ∷ w ∷ more) ≡ true
work_counted _ _ dir n w GiveSizes.default = refl
work_counted _ _ dir n w (GiveSizes.given a b c sizes are) = refl

pub counted : (v : Verb) (rest : List Text) (command : Plan) → Takes v rest command → fits_count v rest ≡ true
counted _ _ _ (Takes.run dir n more channels sizes a b) = run_counted more sizes dir n b
counted _ _ _ (Takes.work dir n w more channels workers sizes a k b) = work_counted more sizes dir n w b
counted _ _ _ (Takes.check dir n channels a) = refl
counted _ _ _ (Takes.export dir n channels a) = refl
counted _ _ _ (Takes.generate lines number count start a) = refl
counted _ _ _ (Takes.trial dir n lines number channels count start a b) = refl

-- where no words are kept, nothing is said
nothing_said : (v : Verb) (rest : List Text) (command : Plan) → some_words rest ≡ None → Takes v rest command → ⊥
nothing_said v [] command none takes = go v (counted v [] command takes)
  where
    go : (w : Verb) → fits_count w [] ≡ true → ⊥
    go verb.Run e = true≢false (sym e)
    go verb.Work e = true≢false (sym e)
    go verb.Check e = true≢false (sym e)
    go verb.Export e = true≢false (sym e)
    go verb.Generate e = true≢false (sym e)
    go verb.Trial e = true≢false (sym e)
nothing_said v (word ∷ more) command none takes = absurd cc

pub nothing_taken : (v : Verb) (rest : List Text) (fault : WordsFault) → some_words rest ≡ None → IsTaken v rest (Err fault)
nothing_taken v rest fault none = record { spelled = tt; only = λ command takes. absurd (nothing_said v rest command none takes) }

-- an error is right where it is want of memory, or the count of words is wrong
pub error_taken : (v : Verb) (rest : List Text) (fault : WordsFault) → (fits_count v rest ≡ true → fault ≡ NoMemory) → IsTaken v rest (Err fault)
error_taken v rest fault fails = record { spelled = tt; only = λ command takes. fails (counted v rest command takes) }

words_kept : (kept rest : List Text) → Some kept ≡ some_words rest → kept ≡ rest
words_kept kept [] is = absurd cc
words_kept kept (word ∷ more) is = cc

pub kept_taken : (v : Verb) (kept rest : List Text) (r : Result Plan WordsFault) → Some kept ≡ some_words rest → IsTaken v kept r → IsTaken v rest r
kept_taken v kept rest r is taken = subst (λ ws. IsTaken v ws r) (words_kept kept rest is) taken

-- ---- all words

refused : (words : List Text) (fault : WordsFault) → ((command : Plan) → Spell words command → ⊥) → IsPlanned words (Err fault)
refused words fault none = record { spelled = tt; only = λ command spell. absurd (none command spell) }

pub unplain_refused : (words : List Text) (fault : WordsFault) → list_all is_plain words ≡ false → IsPlanned words (Err fault)
unplain_refused words fault not_plain = refused words fault (λ command spell. let plain = spell.plain in true≢false (sym plain ∙ not_plain))

pub empty_refused : (words : List Text) (fault : WordsFault) → words ≡ [] → IsPlanned words (Err fault)
empty_refused words fault none = refused words fault (λ command spell. let named = spell.named in absurd cc)

first_of : List Text → Option Text
first_of [] = None
first_of (first ∷ rest) = Some first

pub unnamed_refused : (words : List Text) (first : Text) (rest : List Text) (fault : WordsFault) → words ≡ first ∷ rest → verb_named first ≡ None → IsPlanned words (Err fault)
unnamed_refused words first rest fault is none =
    refused words fault (λ command spell.
    let same : first ∷ rest ≡ name_of spell.verb ∷ spell.rest = sym is ∙ spell.named in
    let name : first ≡ name_of spell.verb = cc in
    let some : Some spell.verb ≡ None = sym (named_back spell.verb) ∙ ap verb_named (sym name) ∙ none in
    absurd cc)

same_said : (words rest : List Text) (v : Verb) (command : Plan) → words ≡ name_of v ∷ rest → Spell words command → Takes v rest command
same_said words rest v command is spell =
    let same : name_of spell.verb ∷ spell.rest ≡ name_of v ∷ rest = sym spell.named ∙ is in
    let name : name_of spell.verb ≡ name_of v = cc in
    let behind : spell.rest ≡ rest = cc in
    let which : Some spell.verb ≡ Some v = sym (named_back spell.verb) ∙ ap verb_named name ∙ named_back v in
    let verbs : spell.verb ≡ v = cc in
    subst (λ w. Takes w rest command) verbs (subst (λ ws. Takes spell.verb ws command) behind spell.takes)

pub taken_planned : (words rest : List Text) (v : Verb) (r : Result Plan WordsFault) → words ≡ name_of v ∷ rest
    → list_all is_plain words ≡ true → IsTaken v rest r → IsPlanned words r
taken_planned words rest v (Ok given) is plain taken = record {
  spelled = record { plain = plain; verb = v; rest = rest; named = is; takes = taken.spelled };
  only = λ command spell. taken.only command (same_said words rest v command is spell);
}
taken_planned words rest v (Err fault) is plain taken =
    record { spelled = tt; only = λ command spell. taken.only command (same_said words rest v command is spell) }
