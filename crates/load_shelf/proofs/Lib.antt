mod FollowLaws
