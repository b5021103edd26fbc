-- The texts that are answered have no line feed within.
use Rattle.std.proofs.Common.{◌≡◌, ℕ, true, List, ◌∷◌, ◌++◌, refl}
use Rattle.std.specs.Prelude.{codes}
use Rattle.std.specs.Fmt.{decimal}
use Rattle.graph_export.specs.Line.{HasNoFeed}
use Rattle.graph_export.proofs.Feedless.{decimal_no_feed, feedless, feedless_is, no_feed-append}
use Rattle.session_lines.specs.declared.refusal.Refusal.{Refusal}
use Rattle.session_lines.specs.declared.refusal.Refusal.TheVariants.{Reserved, Duplicate, Full, NameTaken, NoType, NoName, NoMember, WrongKind, Range, NoRoot, NoTarget, TooBig, BadLine}
use Rattle.session_lines.specs.Refusals.{code_of}

pub ok_no_feed : HasNoFeed (codes "ok")
ok_no_feed = feedless_is (codes "ok") refl

pub tidied_no_feed : HasNoFeed (codes "tidied")
tidied_no_feed = feedless_is (codes "tidied") refl

pub numbered_no_feed : (word : List ℕ) (n : ℕ) → feedless word ≡ true → HasNoFeed (word ++ decimal n)
numbered_no_feed word n is = no_feed-append word (decimal n) (feedless_is word is) (decimal_no_feed n)

pub stored_no_feed : (number count : ℕ) → HasNoFeed (codes "stored " ++ (decimal number ++ (32 ∷ decimal count)))
stored_no_feed number count = no_feed-append (codes "stored ") (decimal number ++ (32 ∷ decimal count)) (feedless_is (codes "stored ") refl)
    (no_feed-append (decimal number) (32 ∷ decimal count) (decimal_no_feed number) (refl, decimal_no_feed count))

code_no_feed : (refusal : Refusal) → HasNoFeed (code_of refusal)
code_no_feed Reserved = feedless_is (codes "reserved") refl
code_no_feed Duplicate = feedless_is (codes "duplicate") refl
code_no_feed Full = feedless_is (codes "full") refl
code_no_feed NameTaken = feedless_is (codes "name-taken") refl
code_no_feed NoType = feedless_is (codes "no-type") refl
code_no_feed NoName = feedless_is (codes "no-name") refl
code_no_feed NoMember = feedless_is (codes "no-member") refl
code_no_feed WrongKind = feedless_is (codes "wrong-kind") refl
code_no_feed Range = feedless_is (codes "range") refl
code_no_feed NoRoot = feedless_is (codes "no-root") refl
code_no_feed NoTarget = feedless_is (codes "no-target") refl
code_no_feed TooBig = feedless_is (codes "too-big") refl
code_no_feed BadLine = feedless_is (codes "bad-line") refl

pub refused_no_feed : (refusal : Refusal) → HasNoFeed (codes "refused " ++ code_of refusal)
refused_no_feed refusal = no_feed-append (codes "refused ") (code_of refusal) (feedless_is (codes "refused ") refl) (code_no_feed refusal)
