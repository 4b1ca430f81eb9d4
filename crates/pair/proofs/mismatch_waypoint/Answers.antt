use mathlib.Core.Path.{◌≡◌, sym, ◌∙◌}
use mathlib.Core.List.{List}
use Prim.Native.Nat.{ℕ}
use native.Mathlib.Omega.{arith}
use mathlib.Core.Bool.{true}
use Rattle.rules.specs.Sound.{sound}
use lib.ListN.{length}
use Rattle.rules.proofs.Longest.{matched_entry}
use Rattle.table.proofs.Bounds.{entries_within_lem, found-entry_within}
use Rattle.pair.proofs.Laws.{few_entries, unsound, no_sid, at_waypoint_lem, matched}
use Rattle.pair.proofs.mismatch_waypoint.Goals as goal

pub returns-then-not-sound : goal.returns-then-not-sound
returns-then-not-sound c =
    let t : List ℕ = c.args.table.now in
    let sid : List ℕ = c.args.sid.now in
    unsound t sid (sym c.sound.ensures ∙ c.if-not-sound.true)

pub returns-then-sid-ne16 : goal.returns-then-sid-ne16
returns-then-sid-ne16 c =
    let t : List ℕ = c.args.table.now in
    let sid : List ℕ = c.args.sid.now in
    let h : sound t ≡ true = sym c.sound.ensures ∙ c.if-not-sound.false in
    no_sid t sid h c.if-sid-ne16.true

pub find-found-requires : goal.find-found-requires
find-found-requires c =
    let t : List ℕ = c.args.table.now in
    let sid : List ℕ = c.args.sid.now in
    let h : sound t ≡ true = sym c.sound.ensures ∙ c.if-not-sound.false in
    entries_within_lem t h

pub entry_at-requires : goal.entry_at-requires
entry_at-requires c =
    let t : List ℕ = c.args.table.now in
    let sid : List ℕ = c.args.sid.now in
    let h : sound t ≡ true = sym c.sound.ensures ∙ c.if-not-sound.false in
    let l : length sid ≡ 16 = c.if-sid-ne16.false in
    let w = c.window.ensures in
    let m = matched t sid _ l w c.find-found.ensures c.in-Some.is in
    found-entry_within t h sid _ m

pub told-requires : goal.told-requires
told-requires c =
    let t : List ℕ = c.args.table.now in
    let sid : List ℕ = c.args.sid.now in
    let h : sound t ≡ true =
    sym c.sound.ensures ∙ c.if-not-sound.false in
    let l : length sid ≡ 16 = c.if-sid-ne16.false in
    let w = c.window.ensures in
    let m = matched t sid _ l w c.find-found.ensures c.in-Some.is in
    omega (arith, few_entries t h, (matched_entry t sid _ m).below)

pub returns-in-None : goal.returns-in-None
returns-in-None c =
    let t : List ℕ = c.args.table.now in
    let sid : List ℕ = c.args.sid.now in
    let h : sound t ≡ true = sym c.sound.ensures ∙ c.if-not-sound.false in
    let l : length sid ≡ 16 = c.if-sid-ne16.false in
    let w = c.window.ensures in
    let m = matched t sid _ l w c.find-found.ensures c.in-None.is in
    at_waypoint_lem t sid h l _ m

pub returns-in-Some : goal.returns-in-Some
returns-in-Some c =
    let t : List ℕ = c.args.table.now in
    let sid : List ℕ = c.args.sid.now in
    let h : sound t ≡ true =
    sym c.sound.ensures ∙ c.if-not-sound.false in
    let l : length sid ≡ 16 = c.if-sid-ne16.false in
    let w = c.window.ensures in
    let m = matched t sid _ l w c.find-found.ensures c.in-Some.is in
    let k = at_waypoint_lem t sid h l _ m in
    c.told.ensures ∙ (rw (← c.entry_at.ensures.same, ← c.unless.ensures) at k)
