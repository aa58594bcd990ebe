mod FollowsLaws
