-- The record of a type has 1 to 1,048,576 bytes.
use Rattle.std.proofs.Common.{◌<◌, ◌≤◌, ◌^◌, ℕ, ◌+◌, ◌*◌, List, [], ◌∷◌, ◌++◌, length, arith, length-append, lit<}
use Rattle.std.specs.Fmt.{decimal}
use Rattle.std.specs.List.{AllByRecursion}
use Rattle.std.proofs.lemmas.Fmt.{length-decimal-le}
use Rattle.type_desc.specs.Grammar.{HasMemberName, IsDesc, IsName, kind_text, member_text, members_text, more_text, record_text}
use Rattle.type_desc.specs.declared.desc.Kind.{Kind}
use Rattle.type_desc.specs.declared.desc.Kind.TheVariants.{Int, Text, Bytes, Ref, Lazy, Refs}
use Rattle.type_desc.specs.declared.desc.Member.{Member}
use Rattle.type_desc.specs.declared.desc.NameKind.{NameKind}
use Rattle.type_desc.specs.declared.desc.NameKind.TheVariants.{OfType, OfMember}
use Rattle.type_desc.specs.declared.desc.TypeDesc.{TypeDesc}

name_fits : (kind : NameKind) (name : List ℕ) → IsName kind name → length name ≤ 64
name_fits kind [] is = absurd is
name_fits kind (b ∷ bs) is = let most : length bs ≤ 63 = is.2 in omega arith

kind_fits : (kind : Kind) → length (kind_text kind) ≤ 5
kind_fits Int = omega arith
kind_fits Text = omega arith
kind_fits Bytes = omega arith
kind_fits Ref = omega arith
kind_fits Lazy = omega arith
kind_fits Refs = omega arith

member_fits : (m : Member) → HasMemberName m → length (member_text m) ≤ 70
member_fits m is =
    let kind = kind_fits m.kind in
    let name = name_fits OfMember m.name is in
    let parts = length-append (kind_text m.kind) (32 ∷ m.name) in
    omega arith

more_fits : (ms : List Member) → AllByRecursion HasMemberName ms → length (more_text ms) ≤ 71 * length ms
more_fits [] each = omega arith
more_fits (m ∷ ms) each =
    let first = member_fits m each.0 in
    let rest = more_fits ms each.1 in
    let parts = length-append (44 ∷ member_text m) (more_text ms) in
    omega arith

members_fit : (ms : List Member) → AllByRecursion HasMemberName ms → length (members_text ms) ≤ 71 * length ms
members_fit [] each = omega arith
members_fit (m ∷ ms) each =
    let first = member_fits m each.0 in
    let rest = more_fits ms each.1 in
    let parts = length-append (member_text m) (more_text ms) in
    omega arith

pub record_some : (id : ℕ) (desc : TypeDesc) → 1 ≤ length (record_text (id, desc))
record_some id desc =
    let parts = length-append (decimal id) (32 ∷ (desc.name ++ 123 ∷ (members_text desc.members ++ 125 ∷ []))) in
    omega arith

pub record_fits : (n : ℕ) (desc : TypeDesc) → n < 65536 → IsDesc desc → length (record_text (16 + n, desc)) ≤ 1048576
record_fits n desc few spelled =
    let low : 16 + n < 10 ^ 5 = omega arith in
    let wide : 16 + n < 2 ^ 64 = omega arith in
    let id = length-decimal-le 5 (16 + n) (lit< tt) low wide in
    let name = name_fits OfType desc.name spelled.name in
    let members = members_fit desc.members spelled.members in
    let count = spelled.count in
    let all = length-append (decimal (16 + n)) (32 ∷ (desc.name ++ 123 ∷ (members_text desc.members ++ 125 ∷ []))) in
    let named = length-append desc.name (123 ∷ (members_text desc.members ++ 125 ∷ [])) in
    let closed = length-append (members_text desc.members) (125 ∷ []) in
    omega arith
