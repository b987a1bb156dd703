-- One name that unfolds every definition here and in the crates below: `unfolding computing` lets a closed example compute.
use Rattle.lists.specs.Computing as lists
use Rattle.purpose.specs.Computing as purpose
use Rattle.text.specs.Computing as text
use Rattle.calendar.specs.Computing as calendar
use Rattle.condition.specs.Computing as condition
use Rattle.form.specs.Computing as form
use Rattle.document.specs.Computing as document
use Rattle.query.specs.QueryForm as QueryForm
use Rattle.query.specs.Authority as Authority
use Rattle.query.specs.Query as Query
use Rattle.query.specs.WhyForm as WhyForm
use Rattle.query.specs.JoinForm as JoinForm
use Rattle.query.specs.Join as Join
use Rattle.query.specs.HostClock as HostClock
use Rattle.query.specs.QueryPlaces as QueryPlaces
use Rattle.query.specs.QueryPartPlaces as QueryPartPlaces
use Rattle.query.specs.JoinPlaces as JoinPlaces
use Rattle.query.specs.RefNaming as RefNaming
use Rattle.query.specs.WhyPlaces as WhyPlaces

unfoldable pub computing : Unit {0}
unfolding mathlib.Core.Option.bind mathlib.Core.List.flatten lists.computing purpose.computing text.computing calendar.computing condition.computing form.computing document.computing QueryForm.selected QueryForm.map_wanted QueryForm.leaves_gaps QueryForm.has_gaps QueryForm.takes_ranges QueryForm.admits_ranges QueryForm.mode_of QueryForm.mode_in QueryForm.column_list QueryForm.wanted_rows QueryForm.query_body QueryForm.query_forms QueryForm.query_form QueryForm.selected_words QueryForm.selected_refs QueryForm.tested_refs QueryForm.named_refs QueryForm.withholding_refs QueryForm.named_words QueryForm.within_bounds QueryForm.if_within_bounds QueryForm.query_of Authority.in_range Authority.clock_number Authority.user_value Authority.attribute_meets Authority.belongs Authority.authorises Authority.first_grant Query.tested Query.unknown_party Query.unknown_column Query.mistyped_query Query.is_missing_date Query.missing_date Query.open_for Query.closed_part Query.columns_in Query.source_of Query.sources Query.column_comparison Query.wanted_of Query.resolved WhyForm.why_body WhyForm.why_of JoinForm.pair_columns JoinForm.join_body JoinForm.join_form JoinForm.if_join_fits JoinForm.join_of JoinForm.key_ref JoinForm.other_key_ref JoinForm.join_refs JoinForm.first_of JoinForm.request_of Join.is_named Join.side_of Join.ref_kind Join.pair_column Join.unknown_ref Join.unknown_in_join Join.self_joined Join.mistyped_join Join.closed_ref Join.closed_in_join Join.join_source Join.join_sources Join.pair_comparison Join.pairing HostClock.clock_of QueryPlaces.condition_at QueryPlaces.selected_from QueryPlaces.verb_of QueryPlaces.wanted_at QueryPlaces.form_at QueryPlaces.asks_rows QueryPlaces.verb_in QueryPlaces.chosen_count QueryPlaces.comparison_count QueryPlaces.TestWithin QueryPlaces.WantedWithin QueryPlaces.ReadsQuery QueryPartPlaces.head_then QueryPartPlaces.head_to QueryPartPlaces.HeadedWithin QueryPartPlaces.listed_at QueryPartPlaces.ListedWithin QueryPartPlaces.tested_at QueryPartPlaces.TestedWithin QueryPartPlaces.body_at QueryPartPlaces.BodyWithin QueryPartPlaces.is_bounded JoinPlaces.columns_from JoinPlaces.join_condition_at JoinPlaces.join_at JoinPlaces.JoinTestWithin JoinPlaces.is_join_bounded JoinPlaces.ReadsJoin JoinPlaces.keys_then JoinPlaces.keys_to JoinPlaces.KeyedWithin JoinPlaces.ReadsRefs JoinPlaces.pairs_at JoinPlaces.PairsWithin JoinPlaces.join_tested_at JoinPlaces.JoinTestedWithin JoinPlaces.join_body_at JoinPlaces.JoinBodyWithin RefNaming.refs_at RefNaming.refs_from WhyPlaces.why_at WhyPlaces.why_line WhyPlaces.why_to
computing = tt
