-- what the frame of a client's line is: its own request, one that it sends again, or bytes as they are
use Rattle.std.specs.Prelude.{Option, None, Some, IfSome}
use Rattle.std.specs.FinMap as map
use Rattle.std.specs.Option.{option_map}
use Rattle.std.proofs.Common.{◌≡◌, ℕ, List, refl, sym, ◌∙◌, ap, subst}
use Rattle.alp_fields.specs.Forms.{whole}
use Rattle.alp_files.specs.declared.call.Call.{Call}
use Rattle.alp_files.specs.declared.reply.Reply.{Reply}
use Rattle.alp_history.specs.Items.{Item}
use Rattle.alp_journal.specs.declared.log.Mark.TheVariants as mark
use Rattle.alp_lines.specs.declared.line.Line.{Line}
use Rattle.alp_lines.specs.declared.line.Line.TheVariants as line
use Rattle.alp_lines.specs.Forms.{IsForm}
use Rattle.alp_lines.specs.Forms as lines
use Rattle.alp_rpc.specs.Frames.{request}
use Rattle.alp_rpc.specs.declared.frame.Request.{Request}
use Rattle.alp_session.specs.Maps.{WordMap}
use Rattle.alp_session.specs.declared.client.Client.{Client}
use Rattle.alp_session.specs.declared.frames.Addressed.{Addressed}
use Rattle.alp_session.specs.declared.greeted.Greeted.{Greeted}
use Rattle.alp_session.specs.Calls.{call_by, server_for}
use Rattle.alp_session.specs.Frames.{request_in, request_of, addressed, frame_of, mark_of, IsRequestOf, KeepsRequests}
use Rattle.alp_session.specs.Heard.{heard, heard_own, heard_again, keeps}
use Rattle.alp_session.specs.Crowd.{Crowd}
use Rattle.alp_session.specs.Crowds.{client_at, request_next, asks}
use Rattle.alp_session.specs.declared.waiting.Next.{Next}
use Rattle.alp_session.specs.declared.waiting.Next.TheVariants as next
use Rattle.alp_session.specs.declared.waiting.Settings.{Settings}
use Rattle.alp_session.proofs.FrameLemmas.{request_read}
use Rattle.alp_node.specs.declared.server_state.ServerState.{ServerState}
use Rattle.alp_cluster.specs.Clients.{States, session_of, IsPastRequest, SpellsPast, KeepsPast, AsksOfTold, SpellsOfTold}
use Rattle.alp_cluster.specs.Steps.{IsOwnNext}
use Rattle.alp_cluster.proofs.SaidLemmas.{KnowsOf}

same_frame : (a b : Addressed) → ◌≡◌ {A = Option Addressed} (Some a) (Some b) → a ≡ b
same_frame a b e = cc

-- a line with a frame of its own is heard so
own_heard : (words : WordMap) (s : Settings) (d : Client) (l : Line) (n : Next) (frame : Addressed) (r : Option Reply) → mark_of l ≡ mark.Own
    → heard words s d l n frame r ≡ (keeps (heard_own words s d frame.server (map.get d.sessions frame.server) l n r).0 frame, (heard_own words s d frame.server (map.get d.sessions frame.server) l n r).1)
own_heard words s d (line.Repeat k) n frame r own = cc
own_heard words s d (line.Old k) n frame r own = cc
own_heard words s d (line.Raw k server bytes) n frame r own = cc
own_heard words s d l n frame r own = refl

-- the line whose call is asked: that of a collect, where the line has come to one
abbrev pub asked_line : ℕ → Line → Next → Line
asked_line k l next.Collect = line.Collect k
asked_line k l n = l

pub asked_form : (k : ℕ) (l : Line) (n : Next) → IsForm l → IsForm (asked_line k l n)
asked_form k l next.Call form = form
asked_form k l next.Collect form = lines.collect k
asked_form k l next.TimeOut form = form
asked_form k l next.Over form = form

-- the client's own line sends the frame of its next request
pub record IsOwn (words : WordMap) (s : Settings) (k : ℕ) (d : Client) (l : Line) (n : Next) (frame : Addressed) : Type 0 where
  pub call : Call
  pub is : call_by words d (asked_line k l n) ≡ Some call
  pub spelled : whole request frame.bytes ≡ Some (request_in k d (asked_line k l n) (map.get d.sessions frame.server) call)
  pub asked : IsRequestOf k frame.bytes
  pub mark : mark_of l ≡ mark.Own
  pub hears : (r : Option Reply) → heard words s d l n frame r ≡ (keeps (heard_own words s d frame.server (map.get d.sessions frame.server) l n r).0 frame, (heard_own words s d frame.server (map.get d.sessions frame.server) l n r).1)

-- or it sends one again
pub record IsAgain {V : Type 0} (states : States V) (words : WordMap) (s : Settings) (k : ℕ) (d : Client) (l : Line) (n : Next) (frame : Addressed) : Type 0 where
  pub again : Request
  pub client : again.client ≡ k
  pub spelled : whole request frame.bytes ≡ Some again
  pub past : IsPastRequest (states frame.server) k (session_of frame.server d) again
  pub known : (xs : List Item) → KnowsOf d xs → AsksOfTold xs again.call
  pub mark : mark_of l ≡ mark.Repeated
  pub hears : (r : Option Reply) → heard words s d l n frame r ≡ (heard_again d frame.server r, next.Over)

-- or these bytes as they are
pub record IsAsIs (words : WordMap) (s : Settings) (d : Client) (l : Line) (n : Next) (frame : Addressed) : Type 0 where
  pub mark : mark_of l ≡ mark.Raw
  pub hears : (r : Option Reply) → heard words s d l n frame r ≡ (d, next.Over)

pub own_asked : (k : ℕ) (d : Client) (l : Line) (o : Option Greeted) (x : Call) → (request_in k d l o x).client ≡ k
own_asked k d l None x = refl
own_asked k d l (Some g) x = refl

-- one of the three
pub data IsSent {V : Type 0} (states : States V) (words : WordMap) (s : Settings) (k : ℕ) (d : Client) (l : Line) (n : Next) (frame : Addressed) : Type 0 where
  own_frame : IsOwn words s k d l n frame → IsSent states words s k d l n frame
  frame_again : IsAgain states words s k d l n frame → IsSent states words s k d l n frame
  bytes_as_are : IsAsIs words s d l n frame → IsSent states words s k d l n frame

module _ {V : Type 0} (states : States V) (words : WordMap) (s : Settings) (k : ℕ) (d : Client) (l : Line) (n : Next) (frame : Addressed) where
  own_hears : (r : Option Reply) → mark_of l ≡ mark.Own → heard words s d l n frame r ≡ (keeps (heard_own words s d frame.server (map.get d.sessions frame.server) l n r).0 frame, (heard_own words s d frame.server (map.get d.sessions frame.server) l n r).1)
  own_hears r m = own_heard words s d l n frame r m

  as_own : (o : Option Call) → call_by words d (asked_line k l n) ≡ o
      → option_map (addressed (server_for words d (asked_line k l n))) (option_map (request_in k d (asked_line k l n) (map.get d.sessions (server_for words d (asked_line k l n)))) o) ≡ Some frame
      → IfSome (option_map (request_in k d (asked_line k l n) (map.get d.sessions (server_for words d (asked_line k l n)))) o) request.Fits
      → mark_of l ≡ mark.Own → IsOwn words s k d l n frame
  as_own None is e fits m = cc
  as_own (Some x) is e fits m =
      let at : ℕ = server_for words d (asked_line k l n) in
      let q : Request = request_in k d (asked_line k l n) (map.get d.sessions at) x in
      let same : addressed at q ≡ frame = same_frame (addressed at q) frame e in
      let spelled : request.spell q ≡ frame.bytes = ap (λ (f : Addressed). f.bytes) same in
      let there : at ≡ frame.server = ap (λ (f : Addressed). f.server) same in
      record {
        call = x;
        is = is;
        spelled = ap (λ (b : List ℕ). whole request b) (sym spelled) ∙ request_read q fits ∙ ap (λ (z : ℕ). Some (request_in k d (asked_line k l n) (map.get d.sessions z) x)) there;
        asked = record { asked = q; client = own_asked k d (asked_line k l n) (map.get d.sessions at) x; spelled = sym spelled; fits = fits };
        mark = m;
        hears = λ r. own_hears r m;
      }

  as_again : (o : Option Addressed) → IfSome o (λ f. IsRequestOf k f.bytes) → IfSome o (λ f. SpellsPast (states f.server) k (session_of f.server d) f.bytes) → ((xs : List Item) → KnowsOf d xs → IfSome o (λ f. SpellsOfTold xs f.bytes)) → o ≡ Some frame → mark_of l ≡ mark.Repeated
      → ((r : Option Reply) → heard words s d l n frame r ≡ (heard_again d frame.server r, next.Over)) → IsAgain states words s k d l n frame
  as_again None asked past known e m h = cc
  as_again (Some b) asked past known e m h =
      let same : b ≡ frame = same_frame b frame e in
      let of : IsRequestOf k frame.bytes = subst (λ (f : Addressed). IsRequestOf k f.bytes) same asked in
      let spells : SpellsPast (states frame.server) k (session_of frame.server d) frame.bytes = subst (λ (f : Addressed). SpellsPast (states f.server) k (session_of f.server d) f.bytes) same past in
      let spelled : whole request frame.bytes ≡ Some of.asked = ap (λ (z : List ℕ). whole request z) of.spelled ∙ request_read of.asked of.fits in
      record {
        again = of.asked;
        client = of.client;
        spelled = spelled;
        past = spells of.asked spelled;
        known = λ xs knows. (let told : SpellsOfTold xs frame.bytes = subst (λ (f : Addressed). SpellsOfTold xs f.bytes) same (known xs knows) in told of.asked spelled);
        mark = m;
        hears = h;
      }

-- what a client's frame is: that of its line
call_as : {V : Type 0} (states : States V) (words : WordMap) (s : Settings) (k : ℕ) (d : Client) (l : Line) (frame : Addressed) → KeepsRequests k d → KeepsPast states k d → frame_of words k d l ≡ Some frame → IfSome (request_of words k d l) request.Fits
    → IsSent states words s k d l next.Call frame
call_as states words s k d (line.Repeat c) frame kept past e fits =
    frame_again (as_again states words s k d (line.Repeat c) next.Call frame d.frames.last kept.last past.last (λ xs knows. knows.last) e refl (λ r. refl))
call_as states words s k d (line.Old c) frame kept past e fits =
    frame_again (as_again states words s k d (line.Old c) next.Call frame d.frames.before kept.before past.before (λ xs knows. knows.before) e refl (λ r. refl))
call_as states words s k d (line.Raw c at bytes) frame kept past e fits = bytes_as_are (record { mark = refl; hears = λ r. refl })
call_as states words s k d l frame kept past e fits = own_frame (as_own states words s k d l next.Call frame (call_by words d l) refl e fits refl)

-- or of the collect that its line has come to
pub sent_here : {V : Type 0} (states : States V) (c : Crowd) (k : ℕ) (l : Line) (now : Next) (frame : Addressed) → KeepsRequests k (client_at c k) → KeepsPast states k (client_at c k) → asks c k l now ≡ Some frame → IfSome (request_next c k l now) request.Fits
    → IsOwnNext l now → IsSent states c.words c.settings k (client_at c k) l now frame
sent_here states c k l next.Call frame kept past e fits own = call_as states c.words c.settings k (client_at c k) l frame kept past e fits
sent_here states c k l next.Collect frame kept past e fits own =
    own_frame (as_own states c.words c.settings k (client_at c k) l next.Collect frame (call_by c.words (client_at c k) (line.Collect k)) refl e fits own)
sent_here states c k l next.TimeOut frame kept past e fits own = cc
sent_here states c k l next.Over frame kept past e fits own = cc
