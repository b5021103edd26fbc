-- What a line of UTF-8 spells is a proper command.
use Rattle.std.proofs.Common.{◌≡◌, ℕ, ◌+◌, ◌<◌, Bool, true, false, cond, List, [], ◌∷◌, ◌++◌, codes, drop, get_or, length, length-append, Option, Some, None, option_map, Ok, Err, IsUtf8, refl, sym, ap, ◌∙◌, subst, arith, zero, suc}
use Rattle.std.specs.Prelude.{nat_eq, nat_le}
use Rattle.std.specs.List.{AllByRecursion}
use Rattle.std.specs.Str.{bytes_eq, is_utf8}
use Rattle.std.proofs.lemmas.Bool.{eqb-true, leb-true}
use Rattle.std.proofs.lemmas.List.{append_assoc, drop_at, get_or_at, length_push}
use Rattle.std.proofs.lemmas.Str.{IsCharBoundary-after_ascii, IsUtf8-drop, IsUtf8-from_is_utf8}
use Rattle.std.specs.Option.{option_or}
use Rattle.type_desc.specs.Grammar.{HasMemberName, IsName}
use Rattle.type_desc.specs.Reader.{Reading}
use Rattle.type_desc.specs.Reading.{name_at}
use Rattle.type_desc.specs.declared.desc.Member.{Member}
use Rattle.type_desc.specs.declared.desc.NameKind.{NameKind}
use Rattle.type_desc.specs.declared.desc.NameKind.TheVariants as name_kinds
use Rattle.type_desc.proofs.Names.{IsReader-name}
use Rattle.refactor_table.specs.Reading.{ref_name_at}
use Rattle.refactor_table.specs.declared.name.RefName.{RefName}
use Rattle.refactor_table.specs.declared.name.RefName.TheVariants.{OfType, OfMember}
use Rattle.session_model.specs.Commands as cmd
use Rattle.session_model.specs.Commands.{Command, Row, Target, ◌>>=◌, add_line, bare_line, by_first, by_rows, command_in, command_of, cut_at, cut_line, follow_line, front_words, kind_named, member_name_of, member_of, members_of, name_line, name_of, new_line, number_of, pick_line, refactor_line, refactor_of, rows, set_line, set_of, target_of, type_line, type_name_of, whole, words_of}
use Rattle.session_model.specs.Sound.{IsProperCommand}

-- ---- what stands behind a space is UTF-8

abbrev option_some : {A : Type 0} → A → Option A
option_some x = Some x

same_some : {A : Type 0} (x y : A) → option_some x ≡ option_some y → x ≡ y
same_some x y e = cc

cut_parts : (byte : ℕ) (line : List ℕ) (parts : List ℕ × List ℕ) → cut_at byte line ≡ Some parts → line ≡ parts.0 ++ byte ∷ parts.1
cut_parts byte [] parts e = absurd cc
cut_parts byte (b ∷ line) parts e = by (nat_eq b byte) refl e (cut_parts byte line)
  where
    front : List ℕ × List ℕ → List ℕ × List ℕ
    front p = (b ∷ p.0, p.1)

    of_rest : (o : Option (List ℕ × List ℕ)) → cut_at byte line ≡ o → option_map (λ p. (b ∷ p.0, p.1)) o ≡ Some parts → ((p : List ℕ × List ℕ) → cut_at byte line ≡ Some p → line ≡ p.0 ++ byte ∷ p.1) → b ∷ line ≡ parts.0 ++ byte ∷ parts.1
    of_rest None f e ih = absurd cc
    of_rest (Some p) f e ih = subst (λ (q : List ℕ × List ℕ). b ∷ line ≡ q.0 ++ byte ∷ q.1) (same_some (front p) parts e) (ap (λ (xs : List ℕ). b ∷ xs) (ih p f))

    by : (t : Bool) → nat_eq b byte ≡ t → cond t (Some ([], line)) (option_map (λ p. (b ∷ p.0, p.1)) (cut_at byte line)) ≡ Some parts
        → ((p : List ℕ × List ℕ) → cut_at byte line ≡ Some p → line ≡ p.0 ++ byte ∷ p.1) → b ∷ line ≡ parts.0 ++ byte ∷ parts.1
    by true f e ih = let pair : List ℕ × List ℕ = ([], line) in subst (λ (q : List ℕ × List ℕ). b ∷ line ≡ q.0 ++ byte ∷ q.1) (same_some pair parts e) (ap (λ (n : ℕ). n ∷ line) (eqb-true b byte f))
    by false f e ih = of_rest (cut_at byte line) refl e ih

behind_is_utf8 : (line front rest : List ℕ) → line ≡ front ++ 32 ∷ rest → IsUtf8 line → IsUtf8 rest
behind_is_utf8 line front rest is utf8 = subst IsUtf8 dropped (IsUtf8-drop line (length front + 1) utf8 (IsCharBoundary-after_ascii line (length front) utf8 within ascii))
  where
    within : length front < length line
    within = let l = length-append front (32 ∷ rest) in let m : length line ≡ length (front ++ 32 ∷ rest) = ap (λ (xs : List ℕ). length xs) is in omega arith

    ascii : get_or line (length front) 0 < 128
    ascii = let g : get_or line (length front) 0 ≡ 32 = ap (λ (xs : List ℕ). get_or xs (length front) 0) is ∙ get_or_at front 32 rest 0 (length front) refl in omega arith

    dropped : drop (length front + 1) line ≡ rest
    dropped = ap (drop (length front + 1)) (is ∙ sym (append_assoc front (32 ∷ []) rest)) ∙ drop_at (front ++ 32 ∷ []) rest (length front + 1) (length_push front 32)

cut_is_utf8 : (line : List ℕ) (parts : List ℕ × List ℕ) → cut_at 32 line ≡ Some parts → IsUtf8 line → IsUtf8 parts.1
cut_is_utf8 line parts e utf8 = behind_is_utf8 line parts.0 parts.1 (cut_parts 32 line parts e) utf8

-- ---- steps that read a line

-- a step that was made
made_step : {A B : Type 0} (o : Option A) (f : A → Option B) (b : B) (P : Type 0) → ((a : A) → o ≡ Some a → f a ≡ Some b → P) → (o >>= f) ≡ Some b → P
made_step None f b P k e = absurd cc
made_step (Some a) f b P k e = k a refl e

front_is_utf8 : (n : ℕ) (line : List ℕ) (words : List (List ℕ) × List ℕ) → front_words n line ≡ Some words → IsUtf8 line → IsUtf8 words.1
front_is_utf8 zero line words e utf8 = let pair : List (List ℕ) × List ℕ = ([], line) in subst (λ (q : List (List ℕ) × List ℕ). IsUtf8 q.1) (same_some pair words e) utf8
front_is_utf8 (suc n) line words e utf8 = made_step (cut_at 32 line) (λ parts. front_words n parts.1 >>= λ others. Some (parts.0 ∷ others.0, others.1)) words (IsUtf8 words.1)
    (λ parts cut made. made_step (front_words n parts.1) (λ others. Some (parts.0 ∷ others.0, others.1)) words (IsUtf8 words.1)
    (λ others front last. let pair : List (List ℕ) × List ℕ = (parts.0 ∷ others.0, others.1) in
    subst (λ (q : List (List ℕ) × List ℕ). IsUtf8 q.1) (same_some pair words last) (front_is_utf8 n parts.1 others front (cut_is_utf8 line parts cut utf8))) made) e

-- a command that was made is the one
is_made : (made c : Command) → IsProperCommand made → option_some made ≡ Some c → IsProperCommand c
is_made made c proper e = subst IsProperCommand (same_some made c e) proper

set_line_proper : (words : List (List ℕ)) (rest : List ℕ) (c : Command) → IsUtf8 rest → set_line (words, rest) ≡ Some c → IsProperCommand c
set_line_proper [] rest c utf8 e = absurd cc
set_line_proper (name ∷ []) rest c utf8 e = absurd cc
set_line_proper (name ∷ (member ∷ [])) rest c utf8 e = made_step (name_of name) (λ bound. member_name_of member >>= λ of_member. Some (cmd.SetMember bound of_member rest)) c (IsProperCommand c)
    (λ bound named step. made_step (member_name_of member) (λ of_member. Some (cmd.SetMember bound of_member rest)) c (IsProperCommand c) (λ of_member is last. is_made (cmd.SetMember bound of_member rest) c utf8 last) step) e
set_line_proper (name ∷ (member ∷ (word ∷ words))) rest c utf8 e = absurd cc

set_proper : (line : List ℕ) (c : Command) → IsUtf8 line → set_of line ≡ Some c → IsProperCommand c
set_proper line c utf8 e = made_step (cut_at 32 line) (λ parts. (cond (bytes_eq parts.0 (codes "set")) (front_words 2 parts.1) None) >>= λ fields. set_line fields) c (IsProperCommand c)
    (λ parts cut step. made_step (cond (bytes_eq parts.0 (codes "set")) (front_words 2 parts.1) None) (λ fields. set_line fields) c (IsProperCommand c)
    (λ fields is last. set_line_proper fields.0 fields.1 c (fields_utf8 parts fields cut is) last) step) e
  where
    chosen : (b : Bool) (o : Option (List (List ℕ) × List ℕ)) (fields : List (List ℕ) × List ℕ) → cond b o None ≡ Some fields → o ≡ Some fields
    chosen true o fields e = e
    chosen false o fields e = absurd cc

    fields_utf8 : (parts : List ℕ × List ℕ) (fields : List (List ℕ) × List ℕ) → cut_at 32 line ≡ Some parts → cond (bytes_eq parts.0 (codes "set")) (front_words 2 parts.1) None ≡ Some fields → IsUtf8 fields.1
    fields_utf8 parts fields cut is = front_is_utf8 2 parts.1 fields (chosen (bytes_eq parts.0 (codes "set")) (front_words 2 parts.1) fields is) (cut_is_utf8 line parts cut utf8)

-- ---- the types of a `type` line

whole_read : {A : Type 0} (r : Reading A) (value : A) → whole r ≡ Some value → r ≡ Ok (value, [])
whole_read (Ok (v, [])) value e = ap (λ (x : _). Ok (x, [])) (same_some v value e)
whole_read (Ok (v, b ∷ bytes)) value e = absurd cc
whole_read (Err left) value e = absurd cc

name_is : (kind : NameKind) (word name : List ℕ) → whole (name_at kind word) ≡ Some name → IsName kind name
name_is kind word name e = ((IsReader-name kind).taken word name [] (whole_read (name_at kind word) name e)).0

member_is : (word : List ℕ) (m : Member) → member_of word ≡ Some m → HasMemberName m
member_is word m e = made_step (cut_at 58 word) (λ parts. kind_named parts.0 >>= λ kind. member_name_of parts.1 >>= λ name. Some (record { kind = kind; name = name })) m (HasMemberName m)
    (λ parts cut step. made_step (kind_named parts.0) (λ kind. member_name_of parts.1 >>= λ name. Some (record { kind = kind; name = name })) m (HasMemberName m)
    (λ kind named step. made_step (member_name_of parts.1) (λ name. Some (record { kind = kind; name = name })) m (HasMemberName m)
    (λ name is last. let made : Member = record { kind = kind; name = name } in subst HasMemberName (same_some made m last) (name_is name_kinds.OfMember parts.1 name is)) step) step) e

members_are : (words : List (List ℕ)) (ms : List Member) → members_of words ≡ Some ms → AllByRecursion HasMemberName ms
members_are [] ms e = let none : List Member = [] in subst (AllByRecursion HasMemberName) (same_some none ms e) tt
members_are (word ∷ words) ms e = made_step (member_of word) (λ member. members_of words >>= λ members. Some (member ∷ members)) ms (AllByRecursion HasMemberName ms)
    (λ member first step. made_step (members_of words) (λ members. Some (member ∷ members)) ms (AllByRecursion HasMemberName ms)
    (λ members others last. let made : List Member = member ∷ members in subst (AllByRecursion HasMemberName) (same_some made ms last) (member_is word member first, members_are words members others)) step) e

type_proper : (words : List (List ℕ)) (c : Command) → type_line words ≡ Some c → IsProperCommand c
type_proper [] c e = absurd cc
type_proper (type_name ∷ words) c e = made_step (type_name_of type_name)
    (λ name. members_of words >>= λ members. cond (nat_le (length members) 1024) (Some (cmd.DeclareType (record { name = name; members = members }))) None) c (IsProperCommand c)
    (λ name named step. made_step (members_of words) (λ members. cond (nat_le (length members) 1024) (Some (cmd.DeclareType (record { name = name; members = members }))) None) c (IsProperCommand c)
    (λ members are last. made name members named are (nat_le (length members) 1024) refl last) step) e
  where
    made : (name : List ℕ) (members : List Member) → type_name_of type_name ≡ Some name → members_of words ≡ Some members → (b : Bool) → nat_le (length members) 1024 ≡ b
        → cond b (Some (cmd.DeclareType (record { name = name; members = members }))) None ≡ Some c → IsProperCommand c
    made name members named are true few last = is_made (cmd.DeclareType (record { name = name; members = members })) c
        (record { name = name_is name_kinds.OfType type_name name named; members = members_are words members are; count = leb-true (length members) 1024 few }) last
    made name members named are false few last = absurd cc

-- ---- the other lines

refactor_made : (from to : RefName) (c : Command) → refactor_of from to ≡ Some c → IsProperCommand c
refactor_made (OfType old) (OfType new) c e = is_made (cmd.Refactor (OfType old) (OfType new)) c tt e
refactor_made (OfMember old m) (OfMember new n) c e = is_made (cmd.Refactor (OfMember old m) (OfMember new n)) c tt e
refactor_made (OfType old) (OfMember new n) c e = absurd cc
refactor_made (OfMember old m) (OfType new) c e = absurd cc

refactor_proper : (words : List (List ℕ)) (c : Command) → refactor_line words ≡ Some c → IsProperCommand c
refactor_proper (old ∷ (new ∷ [])) c e = made_step (whole (ref_name_at old)) (λ from. whole (ref_name_at new) >>= λ to. refactor_of from to) c (IsProperCommand c)
    (λ from is step. made_step (whole (ref_name_at new)) (λ to. refactor_of from to) c (IsProperCommand c) (λ to is last. refactor_made from to c last) step) e
refactor_proper _ c e = absurd cc

new_proper : (words : List (List ℕ)) (c : Command) → new_line words ≡ Some c → IsProperCommand c
new_proper (name ∷ (type_name ∷ [])) c e = made_step (name_of name) (λ bound. type_name_of type_name >>= λ of_type. Some (cmd.New bound of_type)) c (IsProperCommand c)
    (λ bound is step. made_step (type_name_of type_name) (λ of_type. Some (cmd.New bound of_type)) c (IsProperCommand c) (λ of_type is last. is_made (cmd.New bound of_type) c tt last) step) e
new_proper _ c e = absurd cc

add_proper : (words : List (List ℕ)) (c : Command) → add_line words ≡ Some c → IsProperCommand c
add_proper (name ∷ (member ∷ (target ∷ []))) c e = made_step (name_of name) (λ bound. member_name_of member >>= λ of_member. target_of target >>= λ named. Some (cmd.AddTo bound of_member named)) c (IsProperCommand c)
    (λ bound is step. made_step (member_name_of member) (λ of_member. target_of target >>= λ named. Some (cmd.AddTo bound of_member named)) c (IsProperCommand c)
    (λ of_member is step. made_step (target_of target) (λ named. Some (cmd.AddTo bound of_member named)) c (IsProperCommand c) (λ named is last. is_made (cmd.AddTo bound of_member named) c tt last) step) step) e
add_proper _ c e = absurd cc

cut_proper : (words : List (List ℕ)) (c : Command) → cut_line words ≡ Some c → IsProperCommand c
cut_proper (name ∷ (member ∷ (index ∷ []))) c e = made_step (name_of name) (λ bound. member_name_of member >>= λ of_member. number_of index >>= λ at. Some (cmd.CutFrom bound of_member at)) c (IsProperCommand c)
    (λ bound is step. made_step (member_name_of member) (λ of_member. number_of index >>= λ at. Some (cmd.CutFrom bound of_member at)) c (IsProperCommand c)
    (λ of_member is step. made_step (number_of index) (λ at. Some (cmd.CutFrom bound of_member at)) c (IsProperCommand c) (λ at is last. is_made (cmd.CutFrom bound of_member at) c tt last) step) step) e
cut_proper _ c e = absurd cc

follow_proper : (words : List (List ℕ)) (c : Command) → follow_line words ≡ Some c → IsProperCommand c
follow_proper (name ∷ (member ∷ (new ∷ []))) c e = made_step (name_of name) (λ bound. member_name_of member >>= λ of_member. name_of new >>= λ fresh. Some (cmd.Follow bound of_member fresh)) c (IsProperCommand c)
    (λ bound is step. made_step (member_name_of member) (λ of_member. name_of new >>= λ fresh. Some (cmd.Follow bound of_member fresh)) c (IsProperCommand c)
    (λ of_member is step. made_step (name_of new) (λ fresh. Some (cmd.Follow bound of_member fresh)) c (IsProperCommand c) (λ fresh is last. is_made (cmd.Follow bound of_member fresh) c tt last) step) step) e
follow_proper _ c e = absurd cc

pick_proper : (words : List (List ℕ)) (c : Command) → pick_line words ≡ Some c → IsProperCommand c
pick_proper (name ∷ (member ∷ (index ∷ (new ∷ [])))) c e = made_step (name_of name) (λ bound. member_name_of member >>= λ of_member. number_of index >>= λ at. name_of new >>= λ fresh. Some (cmd.Pick bound of_member at fresh)) c (IsProperCommand c)
    (λ bound is step. made_step (member_name_of member) (λ of_member. number_of index >>= λ at. name_of new >>= λ fresh. Some (cmd.Pick bound of_member at fresh)) c (IsProperCommand c)
    (λ of_member is step. made_step (number_of index) (λ at. name_of new >>= λ fresh. Some (cmd.Pick bound of_member at fresh)) c (IsProperCommand c)
    (λ at is step. made_step (name_of new) (λ fresh. Some (cmd.Pick bound of_member at fresh)) c (IsProperCommand c) (λ fresh is last. is_made (cmd.Pick bound of_member at fresh) c tt last) step) step) step) e
pick_proper _ c e = absurd cc

mapped_proper : (make : List ℕ → Command) (o : Option (List ℕ)) (c : Command) → ((name : List ℕ) → IsProperCommand (make name)) → option_map make o ≡ Some c → IsProperCommand c
mapped_proper make None c all e = absurd cc
mapped_proper make (Some name) c all e = is_made (make name) c (all name) e

name_proper : (make : List ℕ → Command) → ((name : List ℕ) → IsProperCommand (make name)) → (words : List (List ℕ)) (c : Command) → name_line make words ≡ Some c → IsProperCommand c
name_proper make all (name ∷ []) c e = mapped_proper make (name_of name) c all e
name_proper make all _ c e = absurd cc

bare_proper : (command : Command) → IsProperCommand command → (words : List (List ℕ)) (c : Command) → bare_line command words ≡ Some c → IsProperCommand c
bare_proper command proper [] c e = is_made command c proper e
bare_proper command proper (word ∷ words) c e = absurd cc

-- ---- the table

-- each command that a row's words spell is proper
abbrev ReadsProper : Row → Type 0
ReadsProper row = (words : List (List ℕ)) (c : Command) → row.read words ≡ Some c → IsProperCommand c

by_rows_proper : (table : List Row) → AllByRecursion ReadsProper table → (word : List ℕ) (words : List (List ℕ)) (c : Command) → by_rows table word words ≡ Some c → IsProperCommand c
by_rows_proper [] all word words c e = absurd cc
by_rows_proper (row ∷ more) all word words c e = by (bytes_eq row.word word) e (by_rows_proper more all.1 word words c)
  where
    by : (b : Bool) → cond b (row.read words) (by_rows more word words) ≡ Some c → (by_rows more word words ≡ Some c → IsProperCommand c) → IsProperCommand c
    by true e later = all.0 words c e
    by false e later = later e

rows_proper : AllByRecursion ReadsProper rows
rows_proper = (
  type_proper,
  (
    refactor_proper,
    (
      new_proper,
      (
        add_proper,
        (
          cut_proper,
          (
            name_proper cmd.SetRoot (λ name. tt),
            (
              name_proper cmd.Store (λ name. tt),
              (
                name_proper cmd.StoreAll (λ name. tt),
                (
                  name_proper cmd.Show (λ name. tt),
                  (
                    name_proper cmd.Home (λ name. tt),
                    (
                      follow_proper,
                      (
                        pick_proper,
                        (
                          name_proper cmd.DropName (λ name. tt),
                          (bare_proper cmd.Forget tt, (bare_proper cmd.Collect tt, (bare_proper cmd.Tidy tt, (bare_proper cmd.Export tt, tt)))),
                        ),
                      ),
                    ),
                  ),
                ),
              ),
            ),
          ),
        ),
      ),
    ),
  ),
)

first_proper : (words : List (List ℕ)) (c : Command) → by_first words ≡ Some c → IsProperCommand c
first_proper [] c e = absurd cc
first_proper (word ∷ words) c e = by_rows_proper rows rows_proper word words c e

in_line_proper : (line : List ℕ) (c : Command) → IsUtf8 line → command_in line ≡ Some c → IsProperCommand c
in_line_proper line c utf8 = by (set_of line) refl
  where
    by : (o : Option Command) → set_of line ≡ o → option_or o (by_first (words_of line)) ≡ Some c → IsProperCommand c
    by None e h = first_proper (words_of line) c h
    by (Some set) e h = set_proper line c utf8 (e ∙ h)

-- the command that a line spells is proper
pub spelled_proper : (line : List ℕ) (c : Command) → command_of line ≡ Some c → IsProperCommand c
unfolding command_of
spelled_proper line c = by (is_utf8 line) refl
  where
    by : (b : Bool) → is_utf8 line ≡ b → cond b (command_in line) None ≡ Some c → IsProperCommand c
    by true e h = in_line_proper line c (IsUtf8-from_is_utf8 line e) h
    by false e h = absurd cc
