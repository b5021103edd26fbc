-- What is taken is taken of the fields; the session that contracts see has the same.
use Rattle.std.proofs.Common.{◌≡◌, ◌<◌, ◌∙◌, ap, subst, sym}
use Rattle.session_lines.specs.Broken.{looked_up}
use Rattle.session_lines.specs.Steady.{IsSteadyWaiting}
use Rattle.session_lines.specs.Steps.{IsListed, steps_left}
use Rattle.session_lines.specs.declared.outcome.Waiting.{Waiting}
use Rattle.session.specs.BrokenSteps.{IsBrokenWhere}
use Rattle.session.specs.Dealing.{ComesNearer, MayGive}
use Rattle.session.specs.Fitting.{Fits}
use Rattle.session.specs.Sessions.{SessionView, session_of}
use Rattle.session.proofs.Fitted.{going_on}
use Rattle.session.proofs.session.Session.next.Goals as goal

pub take-requires : goal.take-requires
take-requires c =
    let is : c.replace-waiting.result ≡ c.self.inside.waiting = c.replace-waiting.ensures.value in
    let was : session_of c.self.inside.memory c.replace-waiting.result ≡ c.args.self.now = ap (λ (w : Waiting). session_of c.self.inside.memory w) is ∙ c.self.view_is in
    let fits = subst (λ (s : SessionView). Fits c.args.given s.waiting) (sym was) c.requires in
    record {
      fits = fits;
      known = c.self.invariant.known (going_on c.args.given c.self.inside.waiting (subst (λ (w : Waiting). Fits c.args.given w) is fits));
      steady = subst (λ (w : Waiting). IsSteadyWaiting c.self.inside.memory w) (sym is) c.self.invariant.waiting;
    }

pub returns-clause-broken : goal.returns-clause-broken
returns-clause-broken c =
    let was : session_of c.self.inside.memory c.replace-waiting.result ≡ c.args.self.now = ap (λ (w : Waiting). session_of c.self.inside.memory w) c.replace-waiting.ensures.value ∙ c.self.view_is in
    subst (λ (s : SessionView). IsBrokenWhere c.args.given s c.in_ok-taken.taken.step) was c.in_ok-taken.ensures.broken

pub returns-clause-gives : goal.returns-clause-gives
returns-clause-gives c = λ is_next_type storage due admits may.
    let was : session_of c.self.inside.memory c.replace-waiting.result ≡ c.args.self.now = ap (λ (w : Waiting). session_of c.self.inside.memory w) c.replace-waiting.ensures.value ∙ c.self.view_is in
    c.in_ok-taken.ensures.gives is_next_type storage due admits (subst (λ (s : SessionView). MayGive c.args.given s storage due) (sym was) may)

pub returns-clause-nearer : goal.returns-clause-nearer
returns-clause-nearer c = λ g listed.
    let was : session_of c.self.inside.memory c.replace-waiting.result ≡ c.args.self.now = ap (λ (w : Waiting). session_of c.self.inside.memory w) c.replace-waiting.ensures.value ∙ c.self.view_is in
    subst (λ (s : SessionView). ComesNearer c.args.given (steps_left s.waiting g) (steps_left c.in_ok-taken.taken.waiting g)) was
    (c.in_ok-taken.ensures.nearer g (subst (λ (s : SessionView). IsListed (looked_up s.waiting) g) (sym was) listed))
